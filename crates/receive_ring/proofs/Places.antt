-- What holds of each element of a list after one of them was set.
use Rattle.std.proofs.Common.{◌≡◌, ◌≢◌, ℕ, ◌<◌, List, length, get_or, set, inl, inr, sym, subst, arith}
use Rattle.std.proofs.lemmas.Bool.{cases_eq}
use Rattle.std.proofs.lemmas.List.{get_or-set_other, get_or-set_same}

module _ {X : Type 0} (P : ℕ → X → Type 0) (xs : List X) (at : ℕ) (new d : X) where
  here : (k : ℕ) → at ≡ k → at < length xs → P at new → P k (get_or (set xs at new) k d)
  here k same inside p =
      subst (λ (k : ℕ). P k (get_or (set xs at new) k d)) same
      (subst (λ (x : X). P at x) (sym (get_or-set_same xs at new d inside)) p)

  elsewhere : (k : ℕ) → k ≢ at → P k (get_or xs k d) → P k (get_or (set xs at new) k d)
  elsewhere k other p = subst (λ (x : X). P k x) (sym (get_or-set_other xs at k new d other)) p

  -- at every number, past the end too
  pub set_everywhere : at < length xs → P at new → ((k : ℕ) → k ≢ at → P k (get_or xs k d)) → (k : ℕ)
      → P k (get_or (set xs at new) k d)
  set_everywhere inside p others k = elim (cases_eq at k) [
    | inl same ↦ here k same inside p
    | inr other ↦ elsewhere k (λ e. other (sym e)) (others k (λ e. other (sym e)))
  ]

  -- within the list, while the element that is set may be past its end
  pub set_within : (at < length xs → P at new) → ((k : ℕ) → k < length xs → k ≢ at → P k (get_or xs k d))
      → (k : ℕ) → k < length xs → P k (get_or (set xs at new) k d)
  set_within p others k below = elim (cases_eq at k) [
    | inl same ↦ let inside : at < length xs = omega arith in here k same inside (p inside)
    | inr other ↦ elsewhere k (λ e. other (sym e)) (others k below (λ e. other (sym e)))
  ]
