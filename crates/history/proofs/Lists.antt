-- Lists read by place, and what holds of each item.
use Rattle.std.proofs.Common.{◌≡◌, ℕ, zero, suc, ◌+◌, ◌<◌, ◌≤◌, ◌⊎◌, inl, inr, List, [], ◌∷◌, ◌++◌, length, get_or, sym, refl}
use Rattle.std.proofs.Common.{ap, subst, arith}
use Rattle.std.specs.List.{AllByRecursion}
use mathlib.Core.Option.{some, none, some-injective, some-ne-none}
use lib.ListN.{get_elem?}

module _ {A : Type 0} where
  -- a place that has an item is below the length
  pub at_below : (xs : List A) (k : ℕ) (a : A) → get_elem? xs k ≡ some a → k < length xs
  at_below [] k a at = absurd (some-ne-none a (sym at))
  at_below (x ∷ xs) zero a at = omega arith
  at_below (x ∷ xs) (suc k) a at = omega (arith, at_below xs k a at)

  -- a place below the length has an item
  pub item_at : (xs : List A) (k : ℕ) → k < length xs → (a : A) × (get_elem? xs k ≡ some a)
  item_at [] k below = absurd (omega arith)
  item_at (x ∷ xs) zero below = (x, refl)
  item_at (x ∷ xs) (suc k) below = item_at xs k (omega arith)

  -- there is no item at the length or above
  pub past_end : (xs : List A) (k : ℕ) → length xs ≤ k → get_elem? xs k ≡ none
  past_end [] k above = refl
  past_end (x ∷ xs) zero above = absurd (omega (arith, above))
  past_end (x ∷ xs) (suc k) above = past_end xs k (omega (arith, above))

  -- the item at a place, by the other way to read it
  pub item_or : (xs : List A) (k : ℕ) (a d : A) → get_elem? xs k ≡ some a → get_or xs k d ≡ a
  item_or [] k a d at = absurd (some-ne-none a (sym at))
  item_or (x ∷ xs) zero a d at = some-injective x a at
  item_or (x ∷ xs) (suc k) a d at = item_or xs k a d at

  -- an item of two lists is one of the first, or one of the second
  pub at_both : (xs ys : List A) (k : ℕ) (a : A) → get_elem? (xs ++ ys) k ≡ some a
      → (get_elem? xs k ≡ some a) ⊎ ((i : ℕ) × (k ≡ length xs + i) × (get_elem? ys i ≡ some a))
  at_both [] ys k a at = inr (k, (omega arith), at)
  at_both (x ∷ xs) ys zero a at = inl at
  at_both (x ∷ xs) ys (suc k) a at =
      elim (at_both xs ys k a at) [ inl h ↦ inl h | inr h ↦ inr (h.0, (let at = h.1 in omega (arith, at)), h.2) ]

  -- an item of a longer list is one of the list, or the last one at its place
  pub at_more : (xs : List A) (a b : A) (k : ℕ) → get_elem? (xs ++ a ∷ []) k ≡ some b
      → (get_elem? xs k ≡ some b) ⊎ ((k ≡ length xs) × (a ≡ b))
  at_more [] a b zero at = inr (refl, some-injective a b at)
  at_more [] a b (suc k) at = absurd (some-ne-none b (sym at))
  at_more (x ∷ xs) a b zero at = inl at
  at_more (x ∷ xs) a b (suc k) at = elim (at_more xs a b k at) [ inl h ↦ inl h | inr h ↦ inr (ap suc h.0, h.1) ]

  -- the item of a list of one, and its place
  pub only_item : (xs : List A) (a b : A) (k : ℕ) → xs ≡ a ∷ [] → get_elem? xs k ≡ some b → (k ≡ 0) × (a ≡ b)
  only_item xs a b k one at =
      elim (at_more [] a b k (subst (λ (z : List A). get_elem? z k ≡ some b) one at))
      [ inl h ↦ absurd (some-ne-none b (sym h)) | inr h ↦ h ]

  module _ (P : A → Type 0) where
    -- what holds of each item of two lists, of each but the last, and of the last
    pub all_append : (xs ys : List A) → AllByRecursion P xs → AllByRecursion P ys → AllByRecursion P (xs ++ ys)
    all_append [] ys all more = more
    all_append (x ∷ xs) ys all more = (all.0, all_append xs ys all.1 more)

    pub all_and : (xs : List A) (x : A) → AllByRecursion P xs → P x → AllByRecursion P (xs ++ x ∷ [])
    all_and xs x all last = all_append xs (x ∷ []) all (last, tt)

    pub all_but : (xs : List A) (x : A) → AllByRecursion P (xs ++ x ∷ []) → AllByRecursion P xs × P x
    all_but [] x all = (tt, all.0)
    all_but (y ∷ xs) x all = let rest = all_but xs x all.1 in ((all.0, rest.0), rest.1)
