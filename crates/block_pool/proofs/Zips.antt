-- Two lists side by side, and changes at one place.
use Rattle.std.proofs.Common.{◌≡◌, ◌≢◌, ℕ, zero, suc, ◌<◌, List, [], ◌∷◌, ◌++◌, length, get_or, set, refl, sym, ap, subst}
use Rattle.std.proofs.Common.{arith}
use Rattle.std.specs.List.{AllByRecursion, AllZip}
use mathlib.Core.Option.{some, some-injective, some-ne-none}
use lib.ListN.{get_elem?}

module _ {A B : Type 0} (R : A → B → Type 0) where
  -- the item beside an item
  pub zip_at : (xs : List A) (ys : List B) (i : ℕ) (x : A) (d : B) → AllZip R xs ys → get_elem? xs i ≡ some x
      → R x (get_or ys i d)
  zip_at [] ys i x d all at = absurd (some-ne-none x (sym at))
  zip_at (z ∷ xs) [] i x d all at = absurd all
  zip_at (z ∷ xs) (y ∷ ys) zero x d all at = subst (λ (a : A). R a y) (some-injective z x at) all.0
  zip_at (z ∷ xs) (y ∷ ys) (suc i) x d all at = zip_at xs ys i x d all.1 at

  -- another item beside it
  pub zip_set : (xs : List A) (ys : List B) (i : ℕ) (x : A) (y : B) → AllZip R xs ys → get_elem? xs i ≡ some x → R x y
      → AllZip R xs (set ys i y)
  zip_set [] ys i x y all at now = absurd (some-ne-none x (sym at))
  zip_set (z ∷ xs) [] i x y all at now = absurd all
  zip_set (z ∷ xs) (w ∷ ys) zero x y all at now = (subst (λ (a : A). R a y) (sym (some-injective z x at)) now, all.1)
  zip_set (z ∷ xs) (w ∷ ys) (suc i) x y all at now = (all.0, zip_set xs ys i x y all.1 at now)

  pub zip_long : (xs : List A) (ys : List B) → AllZip R xs ys → length xs ≡ length ys
  zip_long [] [] all = refl
  zip_long [] (y ∷ ys) all = absurd all
  zip_long (x ∷ xs) [] all = absurd all
  zip_long (x ∷ xs) (y ∷ ys) all = let rest = zip_long xs ys all.1 in omega (arith, rest)

  pub zip_append : (xs more : List A) (ys later : List B) → AllZip R xs ys → AllZip R more later
      → AllZip R (xs ++ more) (ys ++ later)
  zip_append [] more [] later all rest = rest
  zip_append [] more (y ∷ ys) later all rest = absurd all
  zip_append (x ∷ xs) more [] later all rest = absurd all
  zip_append (x ∷ xs) more (y ∷ ys) later all rest = (all.0, zip_append xs more ys later all.1 rest)

module _ {A : Type 0} where
  pub set_at : (xs : List A) (i : ℕ) (x d : A) → i < length xs → get_or (set xs i x) i d ≡ x
  set_at [] i x d below = absurd (omega (arith, below))
  set_at (y ∷ xs) zero x d below = refl
  set_at (y ∷ xs) (suc i) x d below = set_at xs i x d (omega (arith, below))

  pub set_by : (xs : List A) (i j : ℕ) (x d : A) → j ≢ i → get_or (set xs i x) j d ≡ get_or xs j d
  set_by [] i j x d other = refl
  set_by (y ∷ xs) zero zero x d other = absurd (other refl)
  set_by (y ∷ xs) zero (suc j) x d other = refl
  set_by (y ∷ xs) (suc i) zero x d other = refl
  set_by (y ∷ xs) (suc i) (suc j) x d other = set_by xs i j x d (λ e. other (ap suc e))

  pub all_each : (P Q : A → Type 0) (xs : List A) → ((x : A) → P x → Q x) → AllByRecursion P xs → AllByRecursion Q xs
  all_each P Q [] each all = tt
  all_each P Q (x ∷ xs) each all = (each x all.0, all_each P Q xs each all.1)
