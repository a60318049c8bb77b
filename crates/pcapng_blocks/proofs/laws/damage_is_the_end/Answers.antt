use Rattle.pcapng_blocks.proofs.Cuts.{damage_uncut}
use Rattle.pcapng_blocks.proofs.Lawful.{damaged_end}
use Rattle.pcapng_blocks.proofs.laws.damage_is_the_end.Goals as goal

pub returns-clause-end : goal.returns-clause-end
returns-clause-end c fed error e = damaged_end fed error e

pub returns-clause-uncut : goal.returns-clause-uncut
returns-clause-uncut c fed place = damage_uncut fed place
