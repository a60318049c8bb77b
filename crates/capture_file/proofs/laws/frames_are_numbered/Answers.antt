use Rattle.capture_file.proofs.Frames.{frames_numbered}
use Rattle.capture_file.proofs.laws.frames_are_numbered.Goals as goal

pub returns : goal.returns
returns c cpu index fed = frames_numbered cpu index fed
