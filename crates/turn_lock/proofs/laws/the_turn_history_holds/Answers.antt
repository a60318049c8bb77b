use Rattle.turn_lock.proofs.Historical.{historical}
use Rattle.turn_lock.proofs.laws.the_turn_history_holds.Goals as goal

pub returns : goal.returns
returns g c = λ key table held. historical g.V.Kept.stored g.V.Kept.base g.V.Kept.may_add _ _ _ table held
