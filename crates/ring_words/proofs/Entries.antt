-- Lists that are read by place: one more entry at the end, and one more at the start of what is
-- known.
use Rattle.std.proofs.Common.{◌≡◌, ◌⊎◌, ℕ, zero, suc, ◌+◌, ◌<◌, List, [], ◌∷◌, ◌++◌, length, take}
use Rattle.std.proofs.Common.{refl, ap, sym, inl, inr, ⊎_elim, arith}
use Rattle.std.proofs.lemmas.List.{length-append}
use mathlib.Core.Option.{some, some-injective, some-ne-none}
use lib.ListN.{get_elem?}

module _ {A : Type 0} where
  pub entry_at : (l : List A) (i : ℕ) → i < length l → (a : A) × (get_elem? l i ≡ some a)
  entry_at [] i h = absurd (omega arith)
  entry_at (x ∷ l) zero h = (x, refl)
  entry_at (x ∷ l) (suc i) h = entry_at l i (omega arith)

  pub within : (l : List A) (i : ℕ) (a : A) → get_elem? l i ≡ some a → i < length l
  within [] i a e = absurd (some-ne-none a (sym e))
  within (x ∷ l) zero a e = omega arith
  within (x ∷ l) (suc i) a e = let h = within l i a e in omega arith

  -- an entry of the longer list is its last or was in the shorter one
  pub at_new : (l : List A) (a b : A) (i : ℕ) → get_elem? (l ++ a ∷ []) i ≡ some b
      → ((i ≡ length l) × (a ≡ b)) ⊎ (get_elem? l i ≡ some b)
  at_new [] a b zero e = inl (refl, some-injective a b e)
  at_new [] a b (suc i) e = absurd (some-ne-none b (sym e))
  at_new (x ∷ l) a b zero e = inr e
  at_new (x ∷ l) a b (suc i) e = ⊎_elim (λ t. inl (ap suc t.0, t.1)) (λ t. inr t) (at_new l a b i e)

  pub length-snoc : (l : List A) (a : A) → length (l ++ a ∷ []) ≡ length l + 1
  length-snoc l a = length-append l (a ∷ [])

  -- the prefix with one more entry
  pub take-next : (l : List A) (n : ℕ) (a : A) → get_elem? l n ≡ some a → take (suc n) l ≡ take n l ++ a ∷ []
  take-next [] n a e = absurd (some-ne-none a (sym e))
  take-next (x ∷ l) zero a e = ap (λ t. t ∷ []) (some-injective x a e)
  take-next (x ∷ l) (suc n) a e = ap (λ t. x ∷ t) (take-next l n a e)
