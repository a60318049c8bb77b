use Rattle.turn_lock.proofs.Lists.{own_stays}
use Rattle.turn_lock.proofs.laws.own_entries_are_in_last.Goals as goal

pub returns : goal.returns
returns g c = λ base. own_stays (g.V.Kept.may_add base) (g.V.Kept.alone base)
