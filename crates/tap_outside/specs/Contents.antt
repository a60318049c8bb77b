-- What a store holds under its names, and how calls change it. `None` in place of the contents is a
-- store that doesn't report what it holds.
use Rattle.std.specs.Prelude.{◌≡◌, ◌≢◌, List, ℕ, [], ⊤, Option, None, Some, unwrap_or}

-- what each name holds, if it is held
abbrev pub Contents : Type 0
Contents = List ℕ → Option (List ℕ)

-- a source has left what the name holds, and nothing if the name isn't held
abbrev pub GivesFile : Option Contents → List ℕ → Option (List ℕ) → Type 0
GivesFile None name left = ⊤
GivesFile (Some files) name None = ⊥
GivesFile (Some files) name (Some bytes) = bytes ≡ unwrap_or (files name) []

-- the name holds the bytes
abbrev pub HoldsFile : Option Contents → List ℕ → List ℕ → Type 0
HoldsFile None name bytes = ⊤
HoldsFile (Some files) name bytes = files name ≡ Some bytes

-- every other name holds what it held
abbrev pub KeepsOthers : Option Contents → Option Contents → List ℕ → Type 0
KeepsOthers None new name = ⊤
KeepsOthers (Some old) None name = ⊥
KeepsOthers (Some old) (Some new) name = (other : List ℕ) → other ≢ name → new other ≡ old other
