-- Numbers of a list, from one place to another, with others in their stead.
use Rattle.std.proofs.Common.{◌≡◌, ℕ, ◌+◌, ◌-◌, ◌<◌, ◌≤◌, List, ◌++◌, length, take, drop, get_or, arith, ap, ◌∙◌, inl, inr}
use Rattle.std.proofs.Common.{length-append, length-drop}
use Rattle.std.proofs.lemmas.Bool.{cases_lt}
use Rattle.std.proofs.lemmas.List.{get_or_append_left, get_or-append_right, get_or-take, get_or-drop, length-take-le}

module _ (xs own : List ℕ) (a b : ℕ) (order : a ≤ b) (within : b ≤ length xs) (fits : length own ≡ b - a) where
  front : length (take a xs) ≡ a
  front = length-take-le a xs (omega (arith, order, within))

  pub length-spliced : length (take a xs ++ (own ++ drop b xs)) ≡ length xs
  length-spliced =
      omega (
        arith,
        front,
        length-append (take a xs) (own ++ drop b xs),
        length-append own (drop b xs),
        length-drop b xs,
      )

  pub get_or-spliced : (f : ℕ → ℕ) → ((k : ℕ) → k < a → get_or xs k 0 ≡ f k)
      → ((k : ℕ) → a ≤ k → k < b → get_or own (k - a) 0 ≡ f k) → ((k : ℕ) → b ≤ k → k < length xs → get_or xs k 0 ≡ f k)
      → (k : ℕ) → k < length xs → get_or (take a xs ++ (own ++ drop b xs)) k 0 ≡ f k
  get_or-spliced f low mine high k h = elim (cases_lt k a) [
    | inl before ↦
        get_or_append_left (take a xs) (own ++ drop b xs) 0 k (omega (arith, front, before)) ∙ get_or-take a xs k 0 before
        ∙ low k before
    | inr past ↦ elim (cases_lt k b) [
      | inl inside ↦
          get_or-append_right (take a xs) (own ++ drop b xs) a k 0 front past
          ∙ get_or_append_left own (drop b xs) 0 (k - a) (omega (arith, past, inside)) ∙ mine k past inside
      | inr behind ↦
          let place : b + (k - a - (b - a)) ≡ k = omega (arith, past, behind) in
          get_or-append_right (take a xs) (own ++ drop b xs) a k 0 front past
          ∙ get_or-append_right own (drop b xs) (b - a) (k - a) 0 fits (omega (arith, past, behind))
          ∙ get_or-drop b xs (k - a - (b - a)) 0 ∙ ap (λ (j : ℕ). get_or xs j 0) place ∙ high k behind h
    ]
  ]
