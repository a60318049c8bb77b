-- What is in the list that a value has stored, and which seat added it.
use Rattle.std.specs.Prelude.{◌≡◌, ◌≢◌, ℕ, ◌+◌, ◌==◌, if◌then◌else◌, Bool, true, List, [], ◌∷◌}
use Rattle.std.specs.Prelude.{◌++◌, filter}

-- how many of the tickets belong to the seat; the list has the number of each ticket's seat
abbrev pub times : ℕ → List ℕ → ℕ
times number [] = 0
times number (owner ∷ owners) = (if owner == number then 1 else 0) + times number owners

module _ {E : Type 0} where
  -- what the turns added, one after another
  abbrev pub all_added : List (List E) → List E
  all_added [] = []
  all_added (entries ∷ added) = entries ++ all_added added

  -- a turn adds nothing, or one entry that its seat may add
  abbrev pub IsTurn : (ℕ → E → Bool) → ℕ → List E → Type 0
  IsTurn may_add number [] = Unit {0}
  IsTurn may_add number (entry ∷ entries) = (may_add number entry ≡ true) × (entries ≡ [])

  -- a seat of another number may add the entry
  abbrev pub AnotherMay : (ℕ → E → Bool) → ℕ → E → Type 0
  AnotherMay may_add number entry = (other : ℕ) × (other ≢ number) × (may_add other entry ≡ true)

  -- each of the entries is one that a seat of another number may add
  abbrev pub ByOthers : (ℕ → E → Bool) → ℕ → List E → Type 0
  ByOthers may_add number [] = Unit {0}
  ByOthers may_add number (entry ∷ entries) =
      AnotherMay may_add number entry × ByOthers may_add number entries

  -- the list begins with `last`, and each entry after it is one that another seat may add
  abbrev pub GoesOn : (ℕ → E → Bool) → ℕ → List E → List E → Type 0
  GoesOn may_add number last entries =
      (more : List E) × (entries ≡ last ++ more) × ByOthers may_add number more

  -- the entries that the seat may add
  abbrev pub own : (ℕ → E → Bool) → ℕ → List E → List E
  own may_add number entries = filter (may_add number) entries

  -- the entries are those of the list before, or these and one more that the seat may add
  abbrev pub Adds : (ℕ → E → Bool) → ℕ → List E → List E → Type 0
  Adds may_add number before after =
      (entries : List E) × (after ≡ before ++ entries) × IsTurn may_add number entries
