use Rattle.std.proofs.Common.{rules, ap, arith}
use Rattle.ticket_dealer.proofs.Asks.{makes_other}
use Rattle.ticket_dealer.proofs.new_dealers.make_others.Goals as goal

pub split_seat-seat-requires : goal.split_seat-seat-requires
split_seat-seat-requires c = let first = c.loop.invariant.first in let shares = ap (λ m. m.0.shares) first in let more =
    c.loop-test.true in
    (search rules, search rules, makes_other _ _ c.loop.first.me.0 (ap (λ m. m.0.drawn) first) (omega (arith, shares, more)))
