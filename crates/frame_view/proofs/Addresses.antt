-- A link address as its six bytes.
use Rattle.std.proofs.Common.{◌≡◌, ℕ, List, [], ◌∷◌, length, arith, refl}
use Rattle.frame_view.specs.Headers.{address_of}

-- six bytes, one by one
pub address_of_six : (xs : List ℕ) → length xs ≡ 6 → address_of 0 xs ≡ xs
address_of_six (a ∷ b ∷ c ∷ d ∷ e ∷ f ∷ []) h = refl
address_of_six xs h = absurd (omega arith)
