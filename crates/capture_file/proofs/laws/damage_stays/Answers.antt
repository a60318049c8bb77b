use Rattle.std.proofs.Common.{refl}
use Rattle.capture_file.specs.Capture.{damage_of}
use Rattle.capture_file.proofs.LastingDamage.{stays, stays_frames}
use Rattle.capture_file.proofs.laws.damage_stays.Goals as goal

pub returns-clause-damage : goal.returns-clause-damage
returns-clause-damage c fed more damage e = (stays 0 fed more damage e).same

pub returns-clause-frames : goal.returns-clause-frames
returns-clause-frames c cpu fed more some = stays_frames cpu fed more (damage_of fed) refl some
