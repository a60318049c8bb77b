use Rattle.pcapng_blocks.proofs.Lawful.{too_many}
use Rattle.pcapng_blocks.proofs.laws.too_many_bytes_are_damage.Goals as goal

pub returns : goal.returns
returns c fed many = too_many fed many
