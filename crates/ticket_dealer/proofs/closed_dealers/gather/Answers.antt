use Rattle.std.proofs.Common.{ap, ◌∙◌, ◌++◌, [], sym, subst, append-nil, length-append, length, ◌∷◌, arith}
use Rattle.std.specs.List.{AllByRecursion}
use Rattle.history.proofs.Lists.{all_and, all_but}
use Rattle.ticket_dealer.specs.Seats.{IsAt, RisesIn, all_drawn}
use Rattle.ticket_dealer.specs.Tickets.{Rises}
use Rattle.ticket_dealer.proofs.Lists.{drawn_with}
use Rattle.ticket_dealer.proofs.Asks.{joins}
use Rattle.ticket_dealer.proofs.closed_dealers.gather.Goals as goal

pub loop-other-init : goal.loop-other-init
loop-other-init c =
    let seat = c.last.inside.seat in let ok = c.last.invariant in let seats = c.pop.new.self.items in let x = c.in-Some.last in
    let items = c.in-Some.ensures.items in
    let own = all_but (IsAt c.args.shared.now.table_id) seats x
    (subst (AllByRecursion (IsAt c.args.shared.now.table_id)) items c.requires.own) in
    let long = ap length items in let more = length-append seats (x ∷ []) in let one = ok.one in let drawn =
    ap (λ s. s.drawn) c.last.view_is in record {
      table = ap (λ s. s.dealer) c.last.view_is ∙ own.1;
      some = omega (arith, one);
      shares = omega (arith, long, more, one);
      drawn = ap (λ ds. all_drawn seats ++ ds) (sym (append-nil seat.me.0.drawn)) ∙ drawn_with seats x seat.me.0.drawn [] drawn
          ∙ append-nil _ ∙ ap all_drawn (sym items);
      own = own.0;
      rising = λ all. subst (AllByRecursion RisesIn) (sym items) (all_and RisesIn seats x all (subst (Rises 0) drawn ok.rises));
    }

pub join_seat-requires : goal.join_seat-requires
join_seat-requires c =
    let seat = c.other.inside.seat in let items = c.in-Some-pop.ensures.items in let inv = c.loop-other.invariant in
    let own = all_but (IsAt c.args.shared.now.table_id) c.pop-in-loop-other.new.self.items c.in-Some-pop.other
    (subst (AllByRecursion (IsAt c.args.shared.now.table_id)) items inv.own) in (
      inv.table,
      ap (λ s. s.dealer) c.other.view_is ∙ own.1,
      c.other.invariant.holds_none,
      c.requires.table,
      joins _ c.loop-other.all.id c.loop-other.all.me.0 seat.id seat.me.0 inv.some,
    )

pub loop-other-preserved : goal.loop-other-preserved
loop-other-preserved c =
    let seat = c.other.inside.seat in let ok = c.other.invariant in let seats = c.pop-in-loop-other.new.self.items in let x =
    c.in-Some-pop.other in let items = c.in-Some-pop.ensures.items in let inv = c.loop-other.invariant in
    let own = all_but (IsAt c.args.shared.now.table_id) seats x
    (subst (AllByRecursion (IsAt c.args.shared.now.table_id)) items inv.own) in
    let long = ap length items in let more = length-append seats (x ∷ []) in let one = ok.one in let drawn =
    ap (λ s. s.drawn) c.other.view_is in let old = inv.shares in
    let joined_is = c.join_seat.ensures.2 in let shares = ap (λ m. m.0.shares) joined_is in record {
      table = c.join_seat.ensures.0 ∙ inv.table;
      some = (let had = inv.some in omega (arith, shares, had));
      shares = omega (arith, long, more, one, old, shares);
      drawn = ap (λ m. all_drawn seats ++ m.0.drawn) joined_is
          ∙ drawn_with seats x seat.me.0.drawn c.loop-other.all.me.0.drawn drawn
          ∙ ap (λ ss. all_drawn ss ++ c.loop-other.all.me.0.drawn) (sym items) ∙ inv.drawn;
      own = own.0;
      rising = λ all. inv.rising
          (subst (AllByRecursion RisesIn) (sym items) (all_and RisesIn seats x all (subst (Rises 0) drawn ok.rises)));
    }
