-- What was read of a file: a prefix of its bytes.
use Rattle.std.specs.Prelude.{◌≡◌, ℕ, ◌≤◌, Bool, false, true, List, [], ◌∷◌, ◌++◌, length, ⊤}
use Rattle.std.specs.Prelude.{Option}
use Rattle.std.specs.Prelude.{None, Some}
use Rattle.std.specs.Prelude.{unwrap_or}
use Rattle.std.specs.Io.KnownBytes.{Consumes}
use Rattle.tap_outside.specs.Contents.{Contents}
use Rattle.tap_outside.specs.Counts.{Rose}
use Rattle.tap_outside.specs.Records.{NoneOpen, Took}
use Rattle.tap_outside.specs.Seen.{Entry, NoReadFailed, SourceSeen, StoreSeen}

-- bytes from the start of a whole
pub record IsFront (whole bytes : List ℕ) : Type 0 where
  pub rest : List ℕ
  pub parts : whole ≡ bytes ++ rest

-- the bytes are a prefix of what the name holds, if the store reports it; a name that isn't held
-- holds nothing
abbrev pub IsFrontOf : Option Contents → List ℕ → List ℕ → Type 0
IsFrontOf None name bytes = ⊤
IsFrontOf (Some files) name bytes = IsFront (unwrap_or (files name) []) bytes

-- the bytes are all that the name holds, if the store reports it
abbrev pub IsAllOf : Option Contents → List ℕ → List ℕ → Type 0
IsAllOf None name bytes = ⊤
IsAllOf (Some files) name bytes = bytes ≡ unwrap_or (files name) []

-- a text that was read: a prefix of what the name holds, all of it unless it is too large, and
-- never more than one byte above the greatest size
pub record IsTextOf (held : Option Contents) (name text : List ℕ) : Type 0 where
  pub front : IsFrontOf held name text
  pub whole : length text ≤ 1048576 → IsAllOf held name text
  pub few : length text ≤ 1048577

-- a source gave this text: all that its reads gave, whether or not it reports what is left
pub record GaveText (old new : SourceSeen) (text : List ℕ) : Type 0 where
  pub name_is : new.name ≡ old.name
  pub taken : Consumes old.left new.left text
  pub given_is : new.given ≡ text

-- a source gave no more bytes than a text may have: its text doesn't count as read yet
pub record GaveFew (old new : SourceSeen) : Type 0 where
  pub name_is : new.name ≡ old.name
  pub taken : Consumes old.left new.left new.given
  pub few : length new.given ≤ 1048576

-- the entry of a text in the record: what the reads of its name gave, none of which failed
abbrev pub text_entry : List ℕ → List ℕ → Entry
text_entry its_name text =
    record { name = its_name; opened = true; bytes = text; failed = false }

-- these texts were read, each from one source that was opened and closed, and nothing else was, and
-- no read failed
pub record ReadTexts (old new : StoreSeen) (texts : List Entry) : Type 0 where
  pub unfailed : NoReadFailed old new
  pub took : Took old.sources new.sources texts

-- memory ran out: no read failed, and each source that was opened is closed
pub record RanOut (old new : StoreSeen) : Type 0 where
  pub unfailed : NoReadFailed old new
  pub closed : NoneOpen old.sources new.sources

-- the entry of a text that can't be read, whether or not its source was opened
abbrev pub unread_entry : List ℕ → Bool → List ℕ → Entry
unread_entry its_name was_opened given =
    record { name = its_name; opened = was_opened; bytes = given; failed = true }

-- a text can't be read: the name can't be fetched, or a read of it failed, and the count of faults
-- rose; its source was opened once, or not at all, and nothing else was
pub record CantRead (old new : StoreSeen) (name : List ℕ) : Type 0 where
  pub opened : Bool
  -- what its source gave before that; no byte where there was none
  pub given : List ℕ
  pub took : Took old.sources new.sources (unread_entry name opened given ∷ [])
  pub front : IsFrontOf old.held name given
  -- it isn't the whole of a text that is too large
  pub few : length given ≤ 1048576
  pub rose : Rose old.read_faults new.read_faults
