use Rattle.pcapng_blocks.proofs.Lawful.{frames_append}
use Rattle.pcapng_blocks.proofs.laws.frames_only_grow.Goals as goal

pub returns : goal.returns
returns c cpu fed more = frames_append cpu fed more
