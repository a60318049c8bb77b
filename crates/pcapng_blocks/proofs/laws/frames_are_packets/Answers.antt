use Rattle.pcapng_blocks.proofs.Lawful.{frames_numbered}
use Rattle.pcapng_blocks.proofs.laws.frames_are_packets.Goals as goal

pub returns : goal.returns
returns c cpu index fed = frames_numbered cpu index fed
