use Rattle.pcapng_blocks.proofs.Lawful.{stays}
use Rattle.pcapng_blocks.proofs.laws.damage_stays.Goals as goal

pub returns-clause-damage : goal.returns-clause-damage
returns-clause-damage c fed more error e = (stays 0 fed more error e).damage

pub returns-clause-frames : goal.returns-clause-frames
returns-clause-frames c cpu fed more error e = (stays cpu fed more error e).frames
