-- What the words of the program say.
use Rattle.std.specs.Prelude.{ℕ, Bool, ◌&&◌, not, List, [], ◌∷◌, length, ◌==◌, if◌then◌else◌}
use Rattle.std.specs.Prelude.{Option, None, Some}

-- the names of a setup and of a reader's text
pub record SizeNamed : Type 0 where
  pub setup : List ℕ
  pub reader : List ℕ

abbrev pub size_named : List ℕ → List ℕ → SizeNamed
size_named setup reader = record { setup = setup; reader = reader }

abbrev pub is_size_name : List ℕ → Bool
is_size_name word = not (length word == 0)

-- exactly the words `CONF READER`, if neither name is empty
abbrev pub size_words : List (List ℕ) → Option SizeNamed
size_words (setup ∷ reader ∷ []) =
    if is_size_name setup && is_size_name reader then Some (size_named setup reader) else None
size_words words = None
