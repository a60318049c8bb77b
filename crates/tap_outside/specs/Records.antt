-- What a store's record says of its sources.
use Rattle.std.specs.Prelude.{◌≡◌, ℕ, List, [], ◌∷◌, ◌++◌, if◌then◌else◌, Result, Ok, Err}
use Rattle.tap_outside.specs.Seen.{Entry, SourceSeen, SourcesSeen, entry_of, missed_entry}

-- the names of the entries whose source was opened
abbrev pub opened_in : List Entry → List (List ℕ)
opened_in [] = []
opened_in (entry ∷ entries) =
    (if entry.opened then entry.name ∷ [] else []) ++ opened_in entries

-- the record grew by these entries, and each source that was opened is closed: as many were opened
-- as closed, under the same names
pub record Took (old new : SourcesSeen) (entries : List Entry) : Type 0 where
  pub closed_is : new.closed ≡ old.closed ++ entries
  pub opened_is : new.opened ≡ old.opened ++ opened_in entries

-- each source that was opened is closed
pub record NoneOpen (old new : SourcesSeen) : Type 0 where
  pub entries : List Entry
  pub took : Took old new entries

-- how the stores of this crate keep an entry: a source that was closed, or the name of a fetch that
-- failed
abbrev pub kept_entry : {I N : Type 0} → (I → SourceSeen) → (N → List ℕ) → Result I N → Entry
kept_entry seen name_of (Ok source) = entry_of (seen source)
kept_entry seen name_of (Err name) = missed_entry (name_of name)
