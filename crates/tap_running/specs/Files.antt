-- A file of a store that is opened, read to its end and closed.
use Rattle.std.specs.Prelude.{◌≡◌, ℕ, ◌<◌, List, [], ◌∷◌, Bool, Option, None, Some}
use Rattle.capture_file.specs.declared.cpu_end.CpuEnd.{CpuEnd}
use Rattle.tap_outside.specs.Counts.{Rose}
use Rattle.tap_outside.specs.Records.{Took}
use Rattle.tap_outside.specs.Seen.{NoReadFailed, OnlyReads, SourceSeen, StoreSeen, and_closed}
use Rattle.tap_outside.specs.Seen.{and_opened, entry_of, missed_entry}
use Rattle.tap_running.specs.Captures.{IsCapture, IsFresh, capture_entry, fault_at}
use Rattle.tap_running.specs.Counts.{IsCounted}

-- a fetch failed: it was counted, and the record has an empty entry
pub record IsMissed (old new : StoreSeen) (name : List ℕ) : Type 0 where
  pub only : OnlyReads old new
  pub missed : new.sources ≡ and_closed old.sources (missed_entry name)
  pub rose : Rose old.read_faults new.read_faults

-- a source was opened, of what the name holds, and none failed
pub record IsOpened (old new : StoreSeen) (name : List ℕ) (source : SourceSeen) : Type 0 where
  pub unfailed : NoReadFailed old new
  pub opened : new.sources ≡ and_opened old.sources name
  pub fresh : IsFresh old.held name source

-- a name was fetched: it gave a source, or none
abbrev pub IsFetched : StoreSeen → StoreSeen → List ℕ → Option SourceSeen → Type 0
IsFetched old new name None = IsMissed old new name
IsFetched old new name (Some source) = IsOpened old new name source

-- a source was closed: its faults were counted, and the record has its entry
pub record IsTakenBack (old new : StoreSeen) (source : SourceSeen) : Type 0 where
  pub only : OnlyReads old new
  pub closed : new.sources ≡ and_closed old.sources (entry_of source)
  pub faultless : source.faults ≡ 0 → new.read_faults ≡ old.read_faults
  pub faulty : 0 < source.faults → Rose old.read_faults new.read_faults

-- a source was closed, if there was one
abbrev pub IsClosed : StoreSeen → StoreSeen → Option SourceSeen → Type 0
IsClosed old new None = new ≡ old
IsClosed old new (Some source) = IsTakenBack old new source

-- a capture file was read: these are all bytes that its source gave, which was opened once and is
-- closed, and none where it couldn't be fetched; it ended so, and a fault was counted
pub record IsFileRead (old new : StoreSeen) (name bytes : List ℕ) (end : CpuEnd) : Type 0 where
  pub only : OnlyReads old new
  pub capture : IsCapture old.held name bytes end
  pub opened : Bool
  pub given : Took old.sources new.sources (capture_entry name opened bytes end ∷ [])
  pub counted : IsCounted old new (fault_at end)
