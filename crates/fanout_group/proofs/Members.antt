-- Sums over the members of a group, by their numbers.
use Rattle.std.proofs.Common.{◌≡◌, ℕ, zero, suc, ◌+◌, ◌<◌, ◌≤◌, Bool, cond, eqb, ltb, List, [], ◌∷◌, length, get_or, refl, sym}
use Rattle.std.proofs.Common.{ap, ◌∙◌, inl, inr, arith}
use Rattle.std.specs.Prelude.{sum_by}
use Rattle.std.proofs.lemmas.Bool.{cases_eq, cases_lt, eq-eqb, le-ltb, lt-ltb, ne_eqb}
use Rattle.std.proofs.lemmas.List.Sums.{sum_by-cons}

-- the sum over the numbers below a bound
abbrev pub sum_below : (ℕ → ℕ) → ℕ → ℕ
sum_below f zero = 0
sum_below f (suc n) = sum_below f n + f n

-- 1 where a test passes
abbrev pub one_if : Bool → ℕ
one_if test = cond test 1 0

pub sum_below-same : (f g : ℕ → ℕ) (n : ℕ) → ((k : ℕ) → k < n → f k ≡ g k) → sum_below f n ≡ sum_below g n
sum_below-same f g zero h = refl
sum_below-same f g (suc n) h = omega (arith, sum_below-same f g n (λ k below. h k (omega arith)), h n (omega arith))

pub sum_below-add : (f g : ℕ → ℕ) (n : ℕ) → sum_below (λ k. f k + g k) n ≡ sum_below f n + sum_below g n
sum_below-add f g zero = refl
sum_below-add f g (suc n) = omega (arith, sum_below-add f g n)

pub sum_below-zero : (n : ℕ) → sum_below (λ k. 0) n ≡ 0
sum_below-zero zero = refl
sum_below-zero (suc n) = omega (arith, sum_below-zero n)

sum_below-front : (f : ℕ → ℕ) (n : ℕ) → sum_below f (suc n) ≡ f 0 + sum_below (λ k. f (suc k)) n
sum_below-front f zero = omega arith
sum_below-front f (suc n) = omega (arith, sum_below-front f n)

pub sum_by-below : {X : Type 0} (f : X → ℕ) (xs : List X) (d : X) → sum_by f xs ≡ sum_below (λ k. f (get_or xs k d)) (length xs)
sum_by-below f [] d = refl
sum_by-below f (x ∷ xs) d =
    omega (arith, sum_by-cons f x xs, sum_by-below f xs d, sum_below-front (λ k. f (get_or (x ∷ xs) k d)) (length xs))

sum_below-past : (at value n : ℕ) → n ≤ at → sum_below (λ k. cond (eqb at k) value 0) n ≡ 0
sum_below-past at value zero h = refl
sum_below-past at value (suc n) h =
    omega (arith, sum_below-past at value n (omega arith), ap (λ test. cond test value 0) (ne_eqb at n (λ e. omega arith)))

sum_below-here : (at value n : ℕ) → at < n → sum_below (λ k. cond (eqb at k) value 0) n ≡ value
sum_below-here at value zero h = absurd (omega arith)
sum_below-here at value (suc n) h = elim (cases_eq at n) [
  | inl same ↦ omega (arith, sum_below-past at value n (omega arith), ap (λ test. cond test value 0) (eq-eqb at n same))
  | inr other ↦ omega (arith, sum_below-here at value n (omega arith), ap (λ test. cond test value 0) (ne_eqb at n other))
]

-- what is at only one number
pub sum_below-at : (at value n : ℕ) → sum_below (λ k. cond (eqb at k) value 0) n ≡ cond (ltb at n) value 0
sum_below-at at value n = elim (cases_lt at n) [
  | inl below ↦ sum_below-here at value n below ∙ sym (ap (λ test. cond test value 0) (lt-ltb at n below))
  | inr past ↦ sum_below-past at value n past ∙ sym (ap (λ test. cond test value 0) (le-ltb at n past))
]
