use Rattle.std.proofs.Common.{rules, ap, ◌∙◌, arith}
use Rattle.ticket_dealer.proofs.Asks.{ends}
use Rattle.ticket_dealer.proofs.dealer.Dealer.done.Goals as goal

pub fetch_sub-requires : goal.fetch_sub-requires
fetch_sub-requires c = let owes = ap (λ s. s.owes) c.seat.view_is ∙ c.requires.owes in
    (search rules, search rules, ends _ _ _ c.seat.inside.seat.me (omega (arith, owes)))
