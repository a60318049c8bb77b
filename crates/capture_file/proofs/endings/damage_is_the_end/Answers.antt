use Rattle.std.proofs.Common.{ap}
use Rattle.std.specs.Option.{option_or}
use Rattle.capture_file.specs.Capture.{cut_of, end_of}
use Rattle.capture_file.proofs.Damage.{damage_uncut}
use Rattle.capture_file.proofs.endings.damage_is_the_end.Goals as goal

pub returns : goal.returns
unfolding end_of
returns c = record {
  end = λ bytes damage e. ap (λ d. option_or d (cut_of bytes)) e;
  uncut = λ bytes place. damage_uncut bytes place;
}
