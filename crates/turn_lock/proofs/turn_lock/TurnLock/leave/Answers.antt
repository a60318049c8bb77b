use Rattle.std.proofs.Common.{rules, ap, ◌∙◌, sym, [], ◌∷◌, Some, ℕ, ◌+◌}
use Rattle.atomic_table.specs.Table.{rest}
use Rattle.turn_lock.specs.SeatKnowledge.{left}
use Rattle.turn_lock.specs.Seats.{outside}
use Rattle.turn_lock.specs.SeatsInside.{number_in}
use Rattle.turn_lock.proofs.Calls.{inside_of, left_value, left_seat, leaves_from}
use Rattle.turn_lock.proofs.turn_lock.TurnLock.leave.Goals as goal

pub store-requires : goal.store-requires
store-requires g c =
    let old = c.seat.inside.seat in let ok = c.seat.invariant in let seen = c.seat.view_is in
    let turn = c.requires.turn in let stage =
    inside_of old.me.0.stage old.me.0.seen turn.0 old.me.1 ok.holds (ap (λ s. s.turn) seen ∙ turn.1) in
    let lock = c.self.view_is in (
      search rules,
      search rules,
      leaves_from g.V.Kept.stored g.V.Kept.base g.V.Kept.may_add _ _ _ _ _ old.me c.exchange.new.seat.me ok.represented
          c.args.value _ turn.0 (c.args.seat.now.number) _
          (c.exchange.ensures.3 ∙ ap (λ cs. (old.me.0, (0, Some c.args.value) ∷ rest cs)) stage.2) ok.one
          (sym (ap number_in ok.one) ∙ ap (λ s. s.number) seen) stage.0
          stage.1 (ap (λ s. s.base) seen ∙ c.requires.own.1) c.requires.base turn.2 (ap (λ (z : ℕ). z + 1) (sym ok.ticket_is)),
    )

pub invariant_of-seat : goal.invariant_of-seat
invariant_of-seat g c =
    let old = c.seat.inside.seat in let ok = c.seat.invariant in let x = c.args.value in
    let stage = inside_of old.me.0.stage old.me.0.seen c.requires.turn.0 old.me.1 ok.holds
    (ap (λ s. s.turn) c.seat.view_is ∙ c.requires.turn.1) in
    let back = c.exchange.ensures.3 ∙ ap (λ cs. (old.me.0, (0, Some x) ∷ rest cs)) stage.2 in
    left_seat g.V.Kept.stored old c.store.new.seat ok.represented x c.seat.inside.ticket ok
    (c.store.ensures.2 x (ap (λ m. m.1) back) ∙ ap (λ m. (left m.0 (g.V.Kept.stored x), [])) back)

pub returns : goal.returns
returns g c =
    let old = c.seat.inside.seat in let ok = c.seat.invariant in let x = c.args.value in
    let stage = inside_of old.me.0.stage old.me.0.seen c.requires.turn.0 old.me.1 ok.holds
    (ap (λ s. s.turn) c.seat.view_is ∙ c.requires.turn.1) in
    let back = c.exchange.ensures.3 ∙ ap (λ cs. (old.me.0, (0, Some x) ∷ rest cs)) stage.2 in record {
      seat = left_value g.V.Kept.stored old c.store.new.seat ok.represented x (c.store.ensures.0 ∙ c.exchange.ensures.0)
          (c.store.ensures.2 x (ap (λ m. m.1) back) ∙ ap (λ m. (left m.0 (g.V.Kept.stored x), [])) back) ok.one
          ∙ ap (λ s. outside s (g.V.Kept.stored x)) c.seat.view_is;
    }
