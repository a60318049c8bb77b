use Rattle.std.proofs.Common.{rules, ap, ◌∙◌, ◌<◌, ◌^◌, sym, subst, ◌∷◌, Some, ℕ}
use Rattle.atomic_table.specs.Table.{rest}
use Rattle.turn_lock.specs.SeatsInside.{drawn_in}
use Rattle.turn_lock.proofs.Calls.{idle_of, entered_me, entered_seat}
use Rattle.turn_lock.proofs.TurnEnds.{same_value}
use Rattle.turn_lock.proofs.turn_lock.TurnLock.enter.Goals as goal

pub wait_turn-ticket-requires : goal.wait_turn-ticket-requires
wait_turn-ticket-requires g c =
    let old = c.seat.inside.seat in let ok = c.seat.invariant in let seen = c.seat.view_is in record {
      table = search rules;
      stage = (idle_of old.me.0.stage old.me.0.seen old.me.1 ok.holds (ap (λ s. s.turn) seen ∙ c.requires.outside)).0;
      few = (
        ok.represented,
        ok.one,
        subst (λ (z : ℕ). z < 2 ^ 32) (sym (ap (λ s. s.entered) seen) ∙ ap drawn_in ok.one) c.requires.few,
      );
    }

pub exchange-requires : goal.exchange-requires
exchange-requires g c = let has = c.wait_turn-ticket.ensures.value in (
  search rules,
  (Some has.0, ap (λ m. m.1) has.1 ∙ ap (λ cs. (0, Some has.0) ∷ cs) (sym (ap (λ m. rest m.1) has.1))),
)

pub invariant_of-seat : goal.invariant_of-seat
invariant_of-seat g c =
    let old = c.seat.inside.seat in let ok = c.seat.invariant in
    let idle = idle_of old.me.0.stage old.me.0.seen old.me.1 ok.holds (ap (λ s. s.turn) c.seat.view_is ∙ c.requires.outside) in
    let has = c.wait_turn-ticket.ensures.value in let y = c.unwrap.result in
    let same = same_value c.wait_turn-ticket.new.seat.me.1 _ _ c.exchange.result has.0 y (ap (λ m. m.1) has.1)
    c.exchange.ensures.2
    c.unwrap.ensures in
    entered_seat g.V.Kept.stored old c.exchange.new.seat c.wait_turn-ticket.result c.seat.inside.ticket (g.V.Kept.stored y) ok
    c.wait_turn-ticket.ensures.small
    (entered_me g.V.Kept.stored old.me c.wait_turn-ticket.new.seat.me c.exchange.new.seat.me has.0 y
    c.wait_turn-ticket.result idle.1 has.1
    c.exchange.ensures.3 same)
