use Rattle.std.proofs.Common.{rules, ap, ap₂, ◌∙◌, ◌<◌, ◌≤◌, ◌+◌, ◌-◌, ◌++◌, ◌∷◌, [], ℕ, suc, ◌≡◌, sym, subst, arith, Some}
use Rattle.atomic_table.specs.Table as table
use Rattle.turn_lock.specs.SeatKnowledge.{opening}
use Rattle.turn_lock.specs.Seats.{fresh_seats}
use Rattle.turn_lock.specs.SeatsInside.{lock_of}
use Rattle.turn_lock.specs.Turns.{Turns}
use Rattle.turn_lock.proofs.Calls.{fresh_value, fresh_is_seat}
use Rattle.turn_lock.proofs.LockStarts.{opens}
use Rattle.turn_lock.proofs.turn_lock.TurnLock.new.Goals as goal

pub new-requires : goal.new-requires
new-requires g c = let x = c.of.result.value in let b = g.V.Kept.base x in let f = g.V.Kept.stored x in let n : ℕ =
    c.from.result in
    let items : c.push.new.self.items ≡ Some c.args.value ∷ [] =
    c.in_ok-push.ensures.items ∙ ap (λ xs. xs ++ Some c.args.value ∷ []) c.in_ok-slots.ensures.items in
    let is : x ≡ c.args.value = c.of.ensures in let count : n ≡ c.args.seats = search rules in
    subst (λ xs. Turns g.V.Kept.stored g.V.Kept.base g.V.Kept.may_add b f n
    (table.opening (0 ∷ 0 ∷ []) xs (opening b f n))) (sym items)
    (opens g.V.Kept.stored g.V.Kept.base g.V.Kept.may_add b f n c.args.value (ap g.V.Kept.stored (sym is))
    (ap g.V.Kept.base (sym is)) (subst (λ (z : ℕ). 0 < z) (sym count) c.requires.some)
    (subst (λ (z : ℕ). z ≤ 32) (sym count) c.requires.few))

pub invariant_of-insert : goal.invariant_of-insert
invariant_of-insert g c = let x = c.in-Ok.made.0.shared.key.value.value in
    fresh_is_seat c.make_others.new.first (Some (g.V.Kept.base x)) (g.V.Kept.stored x) 0 (c.args.seats - 1 + 1)
    (c.in_ok-make_others.ensures.first)

pub returns-clause-seats : goal.returns-clause-seats
returns-clause-seats g c = let lock =
    lock_of g.V.Kept.base g.V.Kept.stored c.in-Ok.made.0.shared.table_id c.in-Ok.made.0.shared.key in
    let n : ℕ = c.args.seats in
    c.in_ok-insert.ensures.items
    ∙ ap₂ (λ x xs. x ∷ xs)
    (fresh_value c.make_others.new.first lock 0 0 (n - 1 + 1) (search rules) c.in_ok-make_others.ensures.first)
    c.in_ok-make_others.ensures.seats
    ∙ ap (fresh_seats lock 0) (let some = c.requires.some in let g : suc (n - 1) ≡ n = omega (arith, some) in g)
