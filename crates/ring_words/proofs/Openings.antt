-- A ring as it is made.
use Rattle.std.proofs.Common.{◌≡◌, ℕ, zero, suc, ◌<◌, ◌≤◌, List, [], ◌∷◌, length, get_or, map, replicate, refl, ap, ◌∙◌, arith}
use Rattle.std.proofs.Math.ListN.{length-replicate}
use Rattle.std.specs.List.{AllByRecursion}
use Rattle.ring_words.specs.PlainRings.{Keeps, fresh}
use Rattle.ring_words.specs.Rings.{IsMark}
use Rattle.ring_words.specs.declared.plain_ring.Vacant.{Vacant}

-- the first block has the kind of all
pub first_kind : {B : Type 0} (kind : B → List ℕ) (common : List ℕ) (blocks : List B) (first : B)
    → first ≡ get_or blocks 0 first
    → 0 < length blocks → AllByRecursion (λ block. kind block ≡ common) blocks → kind first ≡ common
first_kind kind common [] first at some all = absurd (omega arith)
first_kind kind common (block ∷ blocks) first at some all = ap kind at ∙ all.0

all_zero : (count : ℕ) → AllByRecursion IsMark (replicate count 0)
all_zero zero = tt
all_zero (suc count) = (record { even = refl; small = omega arith }, all_zero count)

vacant_kinds : {B : Type 0} (kind : B → List ℕ) (common : List ℕ) (blocks : List B)
    → AllByRecursion (λ block. kind block ≡ common) blocks
    → AllByRecursion {X = Vacant B} (λ place. kind place.block ≡ common)
    (map (λ block. record { block = block; mark = 0 }) blocks)
vacant_kinds kind common [] all = tt
vacant_kinds kind common (block ∷ blocks) all = (all.0, vacant_kinds kind common blocks all.1)

pub opened : {B : Type 0} (bytes kind : B → List ℕ) (ready : B → ℕ → ℕ → Type 0) (blocks : List B) (common : List ℕ)
    → 2 ≤ length blocks → length blocks ≤ 1048576 → AllByRecursion (λ block. kind block ≡ common) blocks
    → Keeps kind ready (fresh (length blocks) common (map bytes blocks))
    (map (λ block. record { block = block; mark = 0 }) blocks) []
opened bytes kind ready blocks common some few all = record {
  owned = record {
    one_in_hand = (omega arith, omega arith);
    waiting = refl;
    two_in_hand = (omega arith, omega arith);
    free = let count = length-replicate {A = ℕ} (length blocks) 0 in omega arith;
    statuses = tt;
    words = all_zero (length blocks);
  };
  some_places = some;
  few_places = few;
  few_blocks = omega arith;
  vacant_kind = vacant_kinds kind common blocks all;
  filled_kind = tt;
  filled_ready = tt;
}
