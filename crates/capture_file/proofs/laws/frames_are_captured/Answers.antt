use Rattle.capture_file.proofs.Frames.{frames_captured}
use Rattle.capture_file.proofs.laws.frames_are_captured.Goals as goal

pub returns : goal.returns
returns c cpu fed = frames_captured cpu fed
