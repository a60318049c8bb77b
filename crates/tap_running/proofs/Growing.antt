-- Lists that grow by one.
use Rattle.std.proofs.Common.{◌≡◌, ℕ, ◌+◌, ◌<◌, List, [], ◌∷◌, ◌++◌, length, take, get_or, refl, sym, ap, ◌∙◌}
use Rattle.std.proofs.Common.{add-one}
use Rattle.std.specs.Prelude.{map}
use Rattle.std.proofs.Math.Seq.{take-suc}

-- one item more before those that are left
pub one_more : {A : Type 0} (xs : List A) (at : ℕ) (x : A) → x ≡ get_or xs at x → at < length xs
    → take (at + 1) xs ≡ take at xs ++ x ∷ []
one_more xs at x is less = rw add-one (take-suc xs at x less)
    ∙ ap (λ y. take at xs ++ y ∷ []) (sym is)

pub map_more : {A B : Type 0} (f : A → B) (xs : List A) (x : A)
    → map f (xs ++ x ∷ []) ≡ map f xs ++ f x ∷ []
map_more f [] x = refl
map_more f (y ∷ xs) x = ap (λ rest. f y ∷ rest) (map_more f xs x)
