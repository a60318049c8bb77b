use Rattle.std.proofs.Common.{[], arith}
use Rattle.capture_file.proofs.Formats.{brief}
use Rattle.capture_file.proofs.laws.an_empty_capture_has_no_frames.Goals as goal

pub returns-clause-frames : goal.returns-clause-frames
returns-clause-frames c cpu = (brief cpu [] (omega arith)).frames

pub returns-clause-damage : goal.returns-clause-damage
returns-clause-damage c = (brief 0 [] (omega arith)).damage
