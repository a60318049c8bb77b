-- Sums over the views of all seats of a table.
use Rattle.std.proofs.Common.{◌≡◌, ℕ, zero, suc, ◌+◌, ◌*◌, ◌≤◌, ◌≢◌, List, [], ◌∷◌, set, sum_by, sym, refl, ap, ◌∙◌}
use Rattle.std.proofs.Common.{arith, zero-le}
use Rattle.std.proofs.lemmas.List.Sums.{sum_by-cons, sum_by-set, get_or-le-sum_by}
use mathlib.Core.Option.{some, some-injective, some-ne-none}
use native.Mathlib.Nat.{add-mul}
use lib.ListN.{get_elem?}
use Rattle.history.proofs.Lists.{at_below, item_or}

module _ {V : Type 0} (f : V → ℕ) where
  -- the sum after a change of one view
  pub total_set : (views : List V) (j : ℕ) (v w : V) → get_elem? views j ≡ some v
      → sum_by f (set views j w) + f v ≡ sum_by f views + f w
  total_set views j v w at =
      let is = ap f (item_or views j v v at) in omega (arith, is, sum_by-set f views j w v (at_below views j v at))

  -- one of the views has at most the sum of all
  pub total_above : (views : List V) (j : ℕ) (v : V) → get_elem? views j ≡ some v → f v ≤ sum_by f views
  total_above views j v at =
      let is = ap f (item_or views j v v at) in omega (arith, is, get_or-le-sum_by f views j v (at_below views j v at))

  -- two of the views have at most the sum of all
  pub total_both : (views : List V) (i j : ℕ) (v w : V) → i ≢ j → get_elem? views i ≡ some v → get_elem? views j ≡ some w
      → f v + f w ≤ sum_by f views
  total_both [] i j v w other at to = absurd (some-ne-none v (sym at))
  total_both (x ∷ views) zero zero v w other at to = absurd (other refl)
  total_both (x ∷ views) zero (suc j) v w other at to =
      omega (arith, sum_by-cons f x views, ap f (some-injective x v at), total_above views j w to)
  total_both (x ∷ views) (suc i) zero v w other at to =
      omega (arith, sum_by-cons f x views, ap f (some-injective x w to), total_above views i v at)
  total_both (x ∷ views) (suc i) (suc j) v w other at to =
      omega (arith, sum_by-cons f x views, total_both views i j v w (λ e. other (ap suc e)) at to)

  total_none : (views : List V) → ((j : ℕ) (u : V) → get_elem? views j ≡ some u → f u ≡ 0) → sum_by f views ≡ 0
  total_none [] each = refl
  total_none (x ∷ views) each =
      omega (arith, sum_by-cons f x views, each 0 x refl, total_none views (λ j. each (suc j)))

  -- where all others have none, the sum is that of one
  pub total_one : (views : List V) (id : ℕ) (v : V) → get_elem? views id ≡ some v
      → ((j : ℕ) (u : V) → j ≢ id → get_elem? views j ≡ some u → f u ≡ 0) → sum_by f views ≡ f v
  total_one [] id v at each = absurd (some-ne-none v (sym at))
  total_one (x ∷ views) zero v at each =
      let rest = total_none views (λ j u. each (suc j) u (λ e. omega (arith, e))) in
      omega (arith, sum_by-cons f x views, ap f (some-injective x v at), rest)
  total_one (x ∷ views) (suc id) v at each =
      let rest = total_one views id v at (λ j u other. each (suc j) u (λ e. other (omega (arith, e)))) in
      omega (arith, sum_by-cons f x views, each 0 x (λ e. omega (arith, e)) refl, rest)

  -- where each view's number is at most n times another, so is the sum
  pub total_times : (g : V → ℕ) (n : ℕ) (views : List V) → ((j : ℕ) (v : V) → get_elem? views j ≡ some v → f v ≤ g v * n)
      → sum_by f views ≤ sum_by g views * n
  total_times g n [] each = zero-le
  total_times g n (x ∷ views) each =
      let more = ap (λ (s : ℕ). s * n) (sum_by-cons g x views) ∙ add-mul (g x) (sum_by g views) n in
      omega (arith, sum_by-cons f x views, more, each 0 x refl, total_times g n views (λ j. each (suc j)))
