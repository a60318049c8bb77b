use Rattle.std.proofs.Common.{rules, ap, ◌∙◌, sym, subst, unwrap_or, IsSome}
use mathlib.Core.Option.{some-injective}
use Rattle.turn_lock.specs.Endings.{Ends}
use Rattle.turn_lock.proofs.LockEnds.{ends}
use Rattle.turn_lock.proofs.turn_lock.TurnLock.close.Goals as goal

pub unwrap-requires : goal.unwrap-requires
unwrap-requires g c =
    let seat = c.gather-seat.result in
    let end = ends g.V.Kept.stored g.V.Kept.base g.V.Kept.may_add _ _ _ _ _ seat.id seat.me.0 c.args.seats.items
    c.gather-seat.ensures.places c.gather-seat.ensures.stage (c.requires.all ∙ sym (ap (λ l. l.seats) c.self.view_is))
    c.close_with-closed.ensures.values.2 in
    subst IsSome (sym (some-injective _ _ (sym c.take-slot.ensures.value ∙ end.1))) (search rules)

pub returns-clause-base : goal.returns-clause-base
returns-clause-base g c =
    let seat = c.gather-seat.result in
    let end = ends g.V.Kept.stored g.V.Kept.base g.V.Kept.may_add _ _ _ _ _ seat.id seat.me.0 c.args.seats.items
    c.gather-seat.ensures.places c.gather-seat.ensures.stage (c.requires.all ∙ sym (ap (λ l. l.seats) c.self.view_is))
    c.close_with-closed.ensures.values.2 in
    let same = ap (λ o. unwrap_or o end.0) (some-injective _ _ (sym end.1 ∙ c.take-slot.ensures.value) ∙ c.unwrap.ensures) in
    ap g.V.Kept.base (sym same) ∙ end.2 ∙ ap (λ l. l.base) c.self.view_is

pub returns-clause-history : goal.returns-clause-history
returns-clause-history g c =
    let seat = c.gather-seat.result in
    let end = ends g.V.Kept.stored g.V.Kept.base g.V.Kept.may_add _ _ _ _ _ seat.id seat.me.0 c.args.seats.items
    c.gather-seat.ensures.places c.gather-seat.ensures.stage (c.requires.all ∙ sym (ap (λ l. l.seats) c.self.view_is))
    c.close_with-closed.ensures.values.2 in
    let same = ap (λ o. unwrap_or o end.0) (some-injective _ _ (sym end.1 ∙ c.take-slot.ensures.value) ∙ c.unwrap.ensures) in
    subst (λ x. Ends (g.V.Kept.may_add c.args.self.base) c.args.self.first c.args.seats.items (g.V.Kept.stored x)) same
    (subst (λ l. Ends (g.V.Kept.may_add l.base) l.first c.args.seats.items (g.V.Kept.stored end.0)) c.self.view_is end.3)
