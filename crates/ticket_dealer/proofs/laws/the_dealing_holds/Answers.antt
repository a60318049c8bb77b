use Rattle.ticket_dealer.proofs.Dealings.{dealing}
use Rattle.ticket_dealer.proofs.laws.the_dealing_holds.Goals as goal

pub returns : goal.returns
returns c = λ feeders table held. dealing feeders table held
