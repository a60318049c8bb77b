use Rattle.capture_file.proofs.Damage.{damage_not_memory, end_not_memory}
use Rattle.capture_file.proofs.laws.damage_is_not_memory.Goals as goal

pub returns-clause-damage : goal.returns-clause-damage
returns-clause-damage c fed = damage_not_memory fed

pub returns-clause-end : goal.returns-clause-end
returns-clause-end c fed = end_not_memory fed
