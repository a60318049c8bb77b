use Rattle.turn_lock.proofs.Lists.{own_turn}
use Rattle.turn_lock.proofs.laws.a_turn_adds_to_its_own.Goals as goal

pub returns : goal.returns
returns g c = λ base. own_turn (g.V.Kept.may_add base) (g.V.Kept.alone base)
