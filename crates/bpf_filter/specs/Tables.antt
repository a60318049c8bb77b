-- Tables from numbers to what they mean.
use Rattle.std.specs.Prelude.{ℕ, List, [], ◌∷◌, ◌==◌, if◌then◌else◌, Option, None, Some}

-- the entry beside a number, where it first appears
abbrev pub item_at : {A : Type 0} → List (ℕ × A) → ℕ → Option A
item_at [] number = None
item_at (row ∷ rows) number = if row.0 == number then Some row.1 else item_at rows number
