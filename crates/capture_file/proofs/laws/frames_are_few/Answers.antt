use Rattle.capture_file.proofs.Frames.{frames_few, frames_within}
use Rattle.capture_file.proofs.laws.frames_are_few.Goals as goal

pub returns-clause-count : goal.returns-clause-count
returns-clause-count c cpu fed = frames_few cpu fed

pub returns-clause-bytes : goal.returns-clause-bytes
returns-clause-bytes c cpu fed = frames_within cpu fed
