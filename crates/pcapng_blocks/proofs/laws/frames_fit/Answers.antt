use Rattle.pcapng_blocks.proofs.FrameBounds.{frames_fitting}
use Rattle.pcapng_blocks.proofs.laws.frames_fit.Goals as goal

pub returns : goal.returns
returns c cpu fed bytes = frames_fitting cpu fed bytes
