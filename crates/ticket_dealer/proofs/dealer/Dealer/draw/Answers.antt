use Rattle.std.proofs.Common.{rules, ap, ◌∙◌, length, subst, sym, arith}
use Rattle.ticket_dealer.specs.Tickets.{Rises}
use Rattle.ticket_dealer.proofs.Lists.{rises_more}
use Rattle.ticket_dealer.proofs.Asks.{draws}
use Rattle.ticket_dealer.proofs.dealer.Dealer.draw.Goals as goal

pub fetch_add-requires : goal.fetch_add-requires
fetch_add-requires c = let one = c.seat.invariant.one in let few = c.requires.few in let same =
    ap (λ s. length s.drawn) c.seat.view_is in
    (search rules, search rules, draws _ _ _ c.seat.inside.seat.me (omega (arith, one, few, same)))

pub invariant_of-seat : goal.invariant_of-seat
invariant_of-seat c = let ok = c.seat.invariant in let drew = c.fetch_add.ensures.2 in record {
  one = ap (λ m. m.0.shares) drew.0 ∙ ok.one;
  once = search rules;
  rises = subst (Rises 0) (sym (ap (λ m. m.0.drawn) drew.0))
      (rises_more 0 c.fetch_add.result c.seat.inside.seat.me.0.drawn ok.rises drew.1 (omega arith));
  holds_none = ap (λ m. m.1) drew.0 ∙ ok.holds_none;
}
