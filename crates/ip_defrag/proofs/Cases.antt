-- A goal by the two answers of a test.
use Rattle.std.proofs.Common.{◌≡◌, Bool, true, false, refl}

pub by_cases : {G : Type 0} (b : Bool) → (b ≡ true → G) → (b ≡ false → G) → G
by_cases true is isnt = is refl
by_cases false is isnt = isnt refl
