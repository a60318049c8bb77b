use Rattle.capture_file.proofs.Frames.{frames_fitting}
use Rattle.capture_file.proofs.laws.frames_fit.Goals as goal

pub returns : goal.returns
returns c cpu fed small bytes = frames_fitting cpu fed small bytes
