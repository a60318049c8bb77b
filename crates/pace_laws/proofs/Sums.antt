-- A sum over a list, and one over so many members.
use Rattle.std.proofs.Common.{◌≡◌, ℕ, zero, suc, ◌+◌, ◌<◌, ◌≤◌, List, length, get_or, take, refl, sym, ap, ◌∙◌, subst, arith}
use Rattle.std.specs.List.{sum_by}
use Rattle.std.proofs.lemmas.List.{take_all}
use Rattle.std.proofs.lemmas.List.Sums.{sum_by_more}
use Rattle.pace_laws.specs.LeastRings.{total_of}

module _ {X : Type 0} (f : X → ℕ) (all : List X) (none : X) (number_of : ℕ → ℕ)
    (each : (member : ℕ) → member < length all → f (get_or all member none) ≡ number_of member) where
  sum_some : (count : ℕ) → count ≤ length all → sum_by f (take count all) ≡ total_of number_of count
  sum_some zero few = refl
  sum_some (suc count) few =
      let less : count < length all = omega (arith, few) in
      let rest = sum_some count (omega (arith, few)) in
      let one = each count less in
      let up : count + 1 ≡ suc count = omega arith in
      let next = subst (λ (n : ℕ). sum_by f (take n all) ≡ sum_by f (take count all) + f (get_or all count none)) up
      (sum_by_more f all count none less) in
      omega (arith, rest, one, next)

  -- where each item has the number of its place
  pub sum_each : sum_by f all ≡ total_of number_of (length all)
  sum_each = sym (ap (sum_by f) (take_all (length all) all (omega arith))) ∙ sum_some (length all) (omega arith)
