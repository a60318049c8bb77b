-- Lists of items that are all alike.
use Rattle.std.proofs.Common.{◌≡◌, ℕ, zero, suc, List, [], ◌∷◌, ◌++◌, replicate}

-- the last of them is like all
pub last_alike : {X : Type 0} (count : ℕ) (x last : X) (rest : List X) → replicate count x ≡ rest ++ last ∷ [] → last ≡ x
last_alike zero x last [] is = absurd (cc)
last_alike zero x last (y ∷ rest) is = absurd (cc)
last_alike (suc count) x last [] is = cc
last_alike (suc count) x last (y ∷ rest) is = last_alike count x last rest cc
