-- Whether a number is below another, as 1 or 0: so often it is among the numbers below that.
use Rattle.std.proofs.Common.{◌≡◌, ℕ, ◌+◌, ◌<◌, ◌≤◌, eqb, ltb, eq-eqb, ne_eqb, Bool, if◌then◌else◌, ap, arith}
use Rattle.std.proofs.lemmas.Bool.{lt-ltb, le-ltb}
use mathlib.Core.Logic.{dite}
use native.Mathlib.Decide.{ℕ_discrete, dec_le}

abbrev pub one_if : Bool → ℕ
one_if holds = if holds then 1 else 0

pub below_yes : (number k : ℕ) → k < number → one_if (ltb k number) ≡ 1
below_yes number k below = ap one_if (lt-ltb k number below)

pub below_no : (number k : ℕ) → number ≤ k → one_if (ltb k number) ≡ 0
below_no number k above = ap one_if (le-ltb k number above)

-- one number more
pub below_more : (number k : ℕ) → one_if (ltb k (number + 1)) ≡ one_if (ltb k number) + (one_if (eqb number k) + 0)
below_more number k = dite (ℕ_discrete number k)
    (λ same. omega (
      arith,
      below_yes (number + 1) k (omega (arith, same)),
      below_no number k (omega (arith, same)),
      ap one_if (eq-eqb number k same),
    ))
    (λ other. let none = ap one_if (ne_eqb number k other) in dite (dec_le number k)
    (λ above. omega (arith, below_no (number + 1) k (omega (arith, above, other)), below_no number k above, none))
    (λ not_above. let yes = below_yes number k (omega (arith, not_above)) in
    omega (arith, below_yes (number + 1) k (omega (arith, not_above)), yes, none)))
