-- The passes, the takers and the workers of a run before it starts.
use Rattle.std.proofs.Common.{◌≡◌, ℕ, zero, suc, ◌+◌, List, [], ◌∷◌, length, take, drop, refl, sym, ap, arith}
use Rattle.std.specs.List.{AllByRecursion}
use Rattle.atomic_blocks.specs.Laid.{WebId}
use Rattle.block_pool.specs.Takers.{first_takers, handing_base, handing_taken, works_taken}
use Rattle.block_pool.specs.Workers.{IsFreshPassOf}
use Rattle.cpu_feeders.specs.Runs.{IsFreshTaker}
use Rattle.tp_layout.specs.declared.requests.RingRequest.{RingRequest}
use Rattle.work_queue.specs.Passes.{IsPassOf, PassValue, QueueValue, fresh_passes}

-- the passes of a new queue
pub fresh_ones : (queue : QueueValue) (all name count : ℕ) → queue.passes ≡ all
    → AllByRecursion (IsFreshPassOf queue) (fresh_passes queue.id all name count)
fresh_ones queue all name zero is = tt
fresh_ones queue all name (suc count) is = (
  record { own = (refl, sym is); none_handed = refl; none_fetched = refl; no_calls = refl },
  fresh_ones queue all (name + 1) count is,
)

pub passes_long : (id : WebId) (all name count : ℕ) → length (fresh_passes id all name count) ≡ count
passes_long id all name zero = refl
passes_long id all name (suc count) = let rest = passes_long id all (name + 1) count in omega (arith, rest)

module _ {A : Type 0} (P : A → Type 0) where
  pub all_take : (n : ℕ) (xs : List A) → AllByRecursion P xs → AllByRecursion P (take n xs)
  all_take zero xs all = tt
  all_take (suc n) [] all = tt
  all_take (suc n) (x ∷ xs) all = (all.0, all_take n xs all.1)

  pub all_drop : (n : ℕ) (xs : List A) → AllByRecursion P xs → AllByRecursion P (drop n xs)
  all_drop zero xs all = all
  all_drop (suc n) [] all = tt
  all_drop (suc n) (x ∷ xs) all = all_drop n xs all.1

-- takers that have handed nothing
pub fresh_takers : (queue : QueueValue) (shape : RingRequest) (member : ℕ) (passes : List PassValue)
    → AllByRecursion (IsFreshPassOf queue) passes
    → AllByRecursion (IsFreshTaker handing_base handing_taken shape) (first_takers shape member passes)
fresh_takers queue shape member [] fresh = tt
fresh_takers queue shape member (pass ∷ passes) fresh = (
  record { shape_is = refl; none = ap works_taken fresh.0.none_handed },
  fresh_takers queue shape (member + 1) passes fresh.1,
)

pub takers_long : (shape : RingRequest) (member : ℕ) (passes : List PassValue)
    → length (first_takers shape member passes) ≡ length passes
takers_long shape member [] = refl
takers_long shape member (pass ∷ passes) = let rest = takers_long shape (member + 1) passes in omega (arith, rest)

pub own_ones : (queue : QueueValue) (passes : List PassValue) → AllByRecursion (IsFreshPassOf queue) passes
    → AllByRecursion (IsPassOf queue) passes
own_ones queue [] fresh = tt
own_ones queue (pass ∷ passes) fresh = (fresh.0.own, own_ones queue passes fresh.1)
