use Rattle.std.proofs.Common.{ap, ◌∙◌, sym, subst, append-nil, [], ◌++◌, map}
use Rattle.std.specs.List.{AllByRecursion}
use lib.ListN.{get_elem?}
use Rattle.turn_lock.specs.Seats.{IsIdleAt, place_of}
use Rattle.turn_lock.proofs.Calls.{idle_of, places_with}
use Rattle.history.proofs.Lists.{all_but}
use Rattle.turn_lock.proofs.SeatJoins.{joins}
use Rattle.turn_lock.proofs.closed_locks.gather.Goals as goal

pub loop-other-init : goal.loop-other-init
loop-other-init g c =
    let seat = c.last.inside.seat in let ok = c.last.invariant in let items = c.in-Some.ensures.items in
    let own = all_but (IsIdleAt c.args.shared.now.table_id) c.pop.new.self.items c.in-Some.last
    (subst (AllByRecursion (IsIdleAt c.args.shared.now.table_id)) items c.requires.own) in record {
      table = ap (λ s. s.lock) c.last.view_is ∙ own.1.0;
      places = ap (λ ps. map place_of c.pop.new.self.items ++ ps) (sym (append-nil seat.me.0.places))
          ∙ places_with c.pop.new.self.items c.in-Some.last seat c.last.inside.ticket [] ok c.last.view_is ∙ append-nil _
          ∙ ap (map place_of) (sym items);
      first = (ok.represented, ap (λ ps. get_elem? ps 0) ok.one);
      stage = (idle_of seat.me.0.stage seat.me.0.seen seat.me.1 ok.holds (ap (λ s. s.turn) c.last.view_is ∙ own.1.1)).0;
      own = own.0;
    }

pub join_seat-requires : goal.join_seat-requires
join_seat-requires g c =
    let seat = c.other.inside.seat in let ok = c.other.invariant in let items = c.in-Some-pop.ensures.items in let inv =
    c.loop-other.invariant in
    let own = all_but (IsIdleAt c.args.shared.now.table_id) c.pop-in-loop-other.new.self.items c.in-Some-pop.other
    (subst (AllByRecursion (IsIdleAt c.args.shared.now.table_id)) items inv.own) in
    let idle = idle_of seat.me.0.stage seat.me.0.seen seat.me.1 ok.holds (ap (λ s. s.turn) c.other.view_is ∙ own.1.1) in (
      inv.table,
      ap (λ s. s.lock) c.other.view_is ∙ own.1.0,
      idle.1,
      c.requires.table,
      joins g.V.Kept.stored g.V.Kept.base g.V.Kept.may_add _ _ _ c.loop-other.all.id c.loop-other.all.me.0 seat.id seat.me.0
          inv.first.0 inv.first.1 inv.stage idle.0 ok.makes_none,
    )
