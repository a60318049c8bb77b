use Rattle.std.proofs.Common.{rules, ap, ap₂, ◌∙◌, ◌<◌, ◌+◌, ◌++◌, ◌∷◌, [], ℕ, sym, subst, arith, Some}
use Rattle.turn_lock.specs.SeatKnowledge.{fresh_place, maker, newcomer, seated}
use Rattle.turn_lock.specs.SeatsInside.{lock_of}
use Rattle.turn_lock.proofs.Calls.{fresh_value}
use Rattle.turn_lock.proofs.SeatLists.{fresh_more}
use Rattle.turn_lock.proofs.LockStarts.{makes}
use Rattle.turn_lock.proofs.new_locks.make_others.Goals as goal

pub split_seat-seat-requires : goal.split_seat-seat-requires
split_seat-seat-requires g c = let first = g.V.Kept.stored c.args.shared.now.key.value.value in (
  search rules,
  search rules,
  makes g.V.Kept.stored g.V.Kept.base g.V.Kept.may_add _ _ _ _ c.loop.first.me.0 (fresh_place 0 first)
      (ap (λ m. m.0.places) c.loop.invariant.first)
      (subst (λ (z : ℕ). 0 < z) (sym (ap (λ m. m.0.spare) c.loop.invariant.first)) (omega (arith, c.loop-test.true))),
)

pub loop-preserved : goal.loop-preserved
loop-preserved g c =
    let lock = lock_of g.V.Kept.base g.V.Kept.stored c.args.shared.now.table_id c.args.shared.now.key in
    let k : ℕ = c.loop.counter in let split = c.split_seat-seat.ensures in record {
      table = search rules;
      first = split.2 ∙ ap (λ m. (maker m.0, m.1)) c.loop.invariant.first
          ∙ ap (λ (z : ℕ). (seated (Some lock.base) lock.first 0 z (k + 1 + 1), [])) (omega arith);
      seats = c.in_ok-push.ensures.items
          ∙ ap₂ (λ xs x. xs ++ x ∷ []) c.loop.invariant.seats
          (fresh_value c.split_seat-seat.result lock (k + 1) 0 0 (search rules)
          (split.4 ∙ ap (λ m. (newcomer m.0, [])) c.loop.invariant.first))
          ∙ sym (fresh_more lock 1 k (k + 1) (omega arith));
    }
