use Rattle.std.proofs.Common.{ap, ◌∙◌, ℕ, sym, refl, subst, length, get_or, arith}
use Rattle.std.specs.List.{AllByRecursion}
use Rattle.turn_lock.specs.Seats.{IsIdleSeatOf, IsNth}
use Rattle.turn_lock.proofs.SeatLists.{all_places, changed_whole, fresh_at, fresh_long}
use Rattle.ring_tests.proofs.diaries.written_by_all.Goals as goal

pub all_write-requires-clause-fresh : goal.all_write-requires-clause-fresh
all_write-requires-clause-fresh g c = λ κs within i d below. let lock = c.in_ok-lock.lock in let n : ℕ = c.args.seats in
    let are = c.as_mut_slice.ensures.value ∙ c.in_ok-lock.ensures.seats in let long = ap length are ∙ fresh_long lock 0 n in
    let at = ap (λ xs. get_or xs i d) are ∙ fresh_at lock 0 n i d (omega (arith, below, long)) in
    subst (IsNth lock i) (sym at) (((refl, refl, refl), refl), omega arith, refl)

pub all_write-requires-clause-few : goal.all_write-requires-clause-few
all_write-requires-clause-few g c = λ κs within. let lock = c.in_ok-lock.lock in let n : ℕ = c.args.seats in
    let are = c.as_mut_slice.ensures.value ∙ c.in_ok-lock.ensures.seats in let long = ap length are ∙ fresh_long lock 0 n in
    let few = c.requires.few in omega (arith, long, few)

pub close-requires-clause-all : goal.close-requires-clause-all
close-requires-clause-all g c = let all = c.in_ok-lock.all in let lock = c.in_ok-lock.lock in let vec = all.ok.0 in let new =
    c.all_write.new.seats in
    let same = c.all_write.auto.seats ∙ ap length c.as_mut_slice.ensures.value in let whole =
    changed_whole all.len all.items new (omega (arith, vec)) same in
    ap length whole ∙ same ∙ ap length c.in_ok-lock.ensures.seats ∙ fresh_long lock 0 c.args.seats
    ∙ sym c.in_ok-lock.ensures.count

pub close-requires-clause-own : goal.close-requires-clause-own
close-requires-clause-own g c = let all = c.in_ok-lock.all in let lock = c.in_ok-lock.lock in let vec = all.ok.0 in let new =
    c.all_write.new.seats in
    let same = c.all_write.auto.seats ∙ ap length c.as_mut_slice.ensures.value in let whole =
    changed_whole all.len all.items new (omega (arith, vec)) same in
    subst (AllByRecursion (IsIdleSeatOf lock)) (sym whole)
    (all_places (IsIdleSeatOf lock) new
    (λ i d below. c.all_write.ensures.own i d (let long = c.all_write.auto.seats in omega (arith, below, long))))
