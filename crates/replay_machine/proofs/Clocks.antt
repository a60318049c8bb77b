-- A change to each element of a list, one after another.
use Rattle.std.proofs.Common.{◌≡◌, ℕ, zero, suc, ◌+◌, ◌<◌, List, [], ◌∷◌, ◌++◌, length, refl, ap, ◌∙◌, arith, get_or, take}
use Rattle.std.proofs.Common.{drop}
use Rattle.std.specs.Prelude.{map, slice_set}

changed : {X : Type 0} (f : X → X) (xs : List X) (i : ℕ) (d : X) → i < length xs
    → slice_set (map f (take i xs) ++ drop i xs) i (f (get_or (map f (take i xs) ++ drop i xs) i d))
    ≡ map f (take (suc i) xs) ++ drop (suc i) xs
changed f [] i d h = absurd (omega (arith, h))
changed f (x ∷ xs) zero d h = refl
changed f (x ∷ xs) (suc i) d h = ap (λ ys. f x ∷ ys) (changed f xs i d (omega (arith, h)))

next : (i : ℕ) → suc i ≡ i + 1
next i = omega arith

pub one_more : {X : Type 0} (f : X → X) (xs ys : List X) (i : ℕ) (x y : X) → i < length xs
    → ys ≡ map f (take i xs) ++ drop i xs → x ≡ get_or ys i x → y ≡ f x
    → slice_set ys i y ≡ map f (take (i + 1) xs) ++ drop (i + 1) xs
one_more f xs ys i x y h e at is =
    ap (λ z. slice_set ys i z) (is ∙ ap f at) ∙ ap (λ zs. slice_set zs i (f (get_or zs i x))) e ∙ changed f xs i x h
    ∙ ap (λ k. map f (take k xs) ++ drop k xs) (next i)

-- the element whose turn comes next is as it was
pub not_yet : {X : Type 0} (f : X → X) (xs : List X) (i : ℕ) (d : X) → i < length xs
    → get_or (map f (take i xs) ++ drop i xs) i d ≡ get_or xs i d
not_yet f [] i d h = absurd (omega (arith, h))
not_yet f (x ∷ xs) zero d h = refl
not_yet f (x ∷ xs) (suc i) d h = not_yet f xs i d (omega (arith, h))
