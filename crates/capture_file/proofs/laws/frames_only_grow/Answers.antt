use Rattle.capture_file.proofs.Frames.{frames_append}
use Rattle.capture_file.proofs.laws.frames_only_grow.Goals as goal

pub returns : goal.returns
returns c cpu fed more = frames_append cpu fed more
