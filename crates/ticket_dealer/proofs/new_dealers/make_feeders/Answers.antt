use Rattle.std.proofs.Common.{rules, ap, arith}
use Rattle.ticket_dealer.proofs.Asks.{makes_feeder}
use Rattle.ticket_dealer.proofs.new_dealers.make_feeders.Goals as goal

pub split_seat-seat-requires : goal.split_seat-seat-requires
split_seat-seat-requires c = let first = c.loop.invariant.first in let shares = ap (λ m. m.0.shares) first in let owes =
    ap (λ m. m.0.owes) first in (
      search rules,
      search rules,
      makes_feeder _ _ c.loop.first.me.0 (ap (λ m. m.0.drawn) first) (omega (arith, shares))
          (omega (arith, owes)),
    )
