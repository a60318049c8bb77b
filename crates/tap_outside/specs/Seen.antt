-- What contracts see of the outside: a source, a sink and a store, each as one record.
use Rattle.std.specs.Prelude.{◌≡◌, ◌≤◌, ℕ, List, [], ◌∷◌, ◌++◌, Bool, true, false, not, ◌==◌}
use Rattle.std.specs.Prelude.{IsTrue}
use Rattle.std.specs.Prelude.{Option, None, Some}
use Rattle.tap_outside.specs.Contents.{Contents, KeepsOthers}
use Rattle.tap_outside.specs.Counts.{Rose}

-- a source, from which bytes are read
pub record SourceSeen : Type 0 where
  -- the name under which a store opened it; no byte where none did
  pub name : List ℕ
  -- the bytes still to come, if the source reports them
  pub left : Option (List ℕ)
  -- the bytes that its reads gave so far, in order, whether or not it reports what is left
  pub given : List ℕ
  -- the number of reads that failed
  pub faults : ℕ

-- a source of bytes that it reports, before its first read
abbrev pub unread_source : List ℕ → SourceSeen
unread_source bytes = record { name = []; left = Some bytes; given = []; faults = 0 }

-- the source of a name that doesn't report its bytes, before its first read
abbrev pub unread_file : List ℕ → SourceSeen
unread_file its_name = record { name = its_name; left = None; given = []; faults = 0 }

-- a sink, to which bytes are written
pub record SinkSeen : Type 0 where
  -- the bytes written so far, if the sink reports them
  pub written : Option (List ℕ)
  -- the number of writes that failed
  pub faults : ℕ
  -- the number of writes that ran out of memory
  pub refused : ℕ

-- a write ran out of memory: it is counted, and nothing else has changed
pub record IsRefused (old new : SinkSeen) : Type 0 where
  pub same : new ≡ record old { refused = new.refused }
  pub rose : Rose old.refused new.refused

-- an entry of a store's record: a source that was opened and closed, or a fetch that failed
pub record Entry : Type 0 where
  -- the name that was fetched
  pub name : List ℕ
  -- whether its source was opened
  pub opened : Bool
  -- the bytes that its reads gave; none where it wasn't opened
  pub bytes : List ℕ
  -- whether a read of it failed, or its fetch
  pub failed : Bool

-- the entry of a source that is closed
abbrev pub entry_of : SourceSeen → Entry
entry_of source =
    record {
      name = source.name;
      opened = true;
      bytes = source.given;
      failed = not (source.faults == 0);
    }

-- the entry of a fetch that failed
abbrev pub missed_entry : List ℕ → Entry
missed_entry its_name =
    record { name = its_name; opened = false; bytes = []; failed = true }

-- the sources that a store handed out and took back
pub record SourcesSeen : Type 0 where
  -- the name of each source that was opened, in order: one for each fetch that succeeded
  pub opened : List (List ℕ)
  -- an entry for each source that was closed and for each fetch that failed, in the order of the
  -- calls
  pub closed : List Entry

-- before the first fetch
abbrev pub no_sources : SourcesSeen
no_sources = record { opened = []; closed = [] }

-- after one more source was opened
abbrev pub and_opened : SourcesSeen → List ℕ → SourcesSeen
and_opened sources name = record sources { opened = sources.opened ++ name ∷ [] }

-- after one more entry
abbrev pub and_closed : SourcesSeen → Entry → SourcesSeen
and_closed sources entry = record sources { closed = sources.closed ++ entry ∷ [] }

-- a store of named files
pub record StoreSeen : Type 0 where
  -- what each name holds, if the store reports it
  pub held : Option Contents
  -- whether a name is meant for reading
  pub to_read : List ℕ → Bool
  -- whether a name is meant for saving
  pub to_save : List ℕ → Bool
  -- the number of faults of reading: each fetch that fails is one, and each source that had one
  -- when it is closed
  pub read_faults : ℕ
  -- the sources that were opened and closed
  pub sources : SourcesSeen
  -- the number of faults of saving: each save that fails is one
  pub save_faults : ℕ
  -- whether it counts nothing else; a store that isn't exact may count a fault and still succeed
  pub exact : Bool

-- an exact store in which every name is meant for reading and for saving: what it holds, its
-- sources, and its two counts
abbrev pub meant_store : Option Contents → SourcesSeen → ℕ → ℕ → StoreSeen
meant_store contents record_of reads saves =
    record {
      held = contents;
      to_read = λ _. true;
      to_save = λ _. true;
      read_faults = reads;
      sources = record_of;
      save_faults = saves;
      exact = true;
    }

-- all of a store is as before, but the record of its sources, and its count of faults of reading,
-- which may have risen
pub record OnlyReads (old new : StoreSeen) : Type 0 where
  pub same : new ≡ record old { read_faults = new.read_faults; sources = new.sources }
  pub later : old.read_faults ≤ new.read_faults

-- a store is only read and no read failed: an exact store counts no fault
pub record NoReadFailed (old new : StoreSeen) : Type 0 where
  pub only : OnlyReads old new
  pub exact : IsTrue old.exact → new.read_faults ≡ old.read_faults

-- all of a store is as before, except what this name holds and its count of faults of saving, which
-- may have risen
pub record OnlySaves (old new : StoreSeen) (name : List ℕ) : Type 0 where
  pub same : new ≡ record old { held = new.held; save_faults = new.save_faults }
  pub others : KeepsOthers old.held new.held name
  pub later : old.save_faults ≤ new.save_faults
