use Rattle.std.proofs.Common.{rules}
use Rattle.ticket_dealer.proofs.Asks.{looks}
use Rattle.ticket_dealer.proofs.dealer.Dealer.live.Goals as goal

pub load-requires : goal.load-requires
load-requires c = (search rules, search rules, looks _ _ _ c.seat.inside.seat.me)
