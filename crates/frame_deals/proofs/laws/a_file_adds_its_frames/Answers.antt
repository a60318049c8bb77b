use Rattle.std.proofs.Common.{List, ap, ◌∙◌}
use Rattle.capture_file.specs.Capture.{frames_of}
use Rattle.deal_rules.specs.Files.{frames_in}
use Rattle.frame_view.specs.declared.frames.Frame.{Frame}
use Rattle.frame_deals.specs.Dealings.{after_frames}
use Rattle.frame_deals.proofs.FileFrames.{frames_more}
use Rattle.frame_deals.proofs.KeptMarks.{after_both}
use Rattle.frame_deals.proofs.laws.a_file_adds_its_frames.Goals as goal

pub returns : goal.returns
returns c = λ rules room cpu files bytes dealing.
    ap (λ (frames : List Frame). after_frames rules room frames dealing) (frames_more cpu files bytes)
    ∙ after_both rules room (frames_in cpu files) (frames_of cpu bytes) dealing
