-- The state of stores in memory.
use Rattle.std.specs.Prelude.{◌≡◌, ◌≢◌, ℕ, List, [], Option, Some, IsNone, ◌⊎◌, Contains}
use Rattle.std.specs.Prelude.{find, bytes_eq, option_map}
use Rattle.tap_outside.specs.Contents.{Contents}
use Rattle.tap_outside.specs.Counts.{counted}
use Rattle.tap_outside.specs.Seen.{Entry, SourcesSeen, StoreSeen, and_closed, and_opened}
use Rattle.tap_outside.specs.Seen.{meant_store, missed_entry, no_sources}
use Rattle.tap_outside.specs.Sources.{MemSourceState, fresh_source}

-- a file in memory
pub record HeldFile : Type 0 where
  pub name : List ℕ
  -- what the name holds
  pub bytes : List ℕ
  -- the most bytes that one read of it gives
  pub piece : ℕ
  -- the numbers, from 1, of the reads of it that fail
  pub failing : List ℕ

-- the file of a name with these bytes, its pieces and the reads that fail
abbrev pub file_with : List ℕ → List ℕ → ℕ → List ℕ → HeldFile
file_with its_name held most numbers =
    record { name = its_name; bytes = held; piece = most; failing = numbers }

-- the file of a name
abbrev pub file_of : List HeldFile → List ℕ → Option HeldFile
file_of files name = find (λ file. bytes_eq file.name name) files

-- what each name holds
abbrev pub contents_of : List HeldFile → Contents
contents_of files name = option_map (λ file. file.bytes) (file_of files name)

-- a source of a file, before its first read
abbrev pub source_of : HeldFile → MemSourceState
source_of file = record (fresh_source file.bytes file.piece file.failing) { name = file.name }

-- the file is under its name, and every other name has the file that it had
pub record PutsFile (old new : List HeldFile) (file : HeldFile) : Type 0 where
  pub there : file_of new file.name ≡ Some file
  pub others : (other : List ℕ) → other ≢ file.name → file_of new other ≡ file_of old other

-- a store in memory
pub record MemStoreState : Type 0 where
  -- the files; the first one with a name is that name's
  pub files : List HeldFile
  -- the numbers, from 1, of the fetches that fail
  pub failing_fetches : List ℕ
  -- the numbers, from 1, of the saves that fail
  pub failing_saves : List ℕ
  -- the number of fetches so far, except those that ran out of memory
  pub fetches : ℕ
  -- the number of saves so far, except those that ran out of memory
  pub saves : ℕ
  -- the number of fetches that failed, and of sources that had a fault when they were closed
  pub read_faults : ℕ
  -- the sources that were opened and closed
  pub sources : SourcesSeen
  -- the number of saves that failed
  pub save_faults : ℕ

-- the view of such a store: it reports what it holds
abbrev pub seen_store : MemStoreState → StoreSeen
seen_store store =
    meant_store (Some (contents_of store.files)) store.sources store.read_faults store.save_faults

-- the next fetch is one that is to fail, or the name isn't held
abbrev pub FetchFails : MemStoreState → List ℕ → Type 0
FetchFails store name =
    Contains store.failing_fetches (counted store.fetches) ⊎ IsNone (file_of store.files name)

-- a store before its first file
abbrev pub fresh_store : List ℕ → List ℕ → MemStoreState
fresh_store fetch_numbers save_numbers =
    record {
      files = [];
      failing_fetches = fetch_numbers;
      failing_saves = save_numbers;
      fetches = 0;
      saves = 0;
      read_faults = 0;
      sources = no_sources;
      save_faults = 0;
    }

-- a store after a fetch of this name
abbrev pub after_fetch : MemStoreState → List ℕ → MemStoreState
after_fetch store name =
    record store { fetches = counted store.fetches; sources = and_opened store.sources name }

-- a store after a fetch of this name that failed
abbrev pub after_failed_fetch : MemStoreState → List ℕ → MemStoreState
after_failed_fetch store name =
    record store {
      fetches = counted store.fetches;
      read_faults = counted store.read_faults;
      sources = and_closed store.sources (missed_entry name);
    }

-- a store after it took back a source of this entry, which had no fault
abbrev pub after_close : MemStoreState → Entry → MemStoreState
after_close store entry = record store { sources = and_closed store.sources entry }

-- a store after it took back a source of this entry, which had a fault
abbrev pub after_faulty_close : MemStoreState → Entry → MemStoreState
after_faulty_close store entry =
    record (after_close store entry) { read_faults = counted store.read_faults }

-- a store after a save that left it these files
abbrev pub after_save : MemStoreState → List HeldFile → MemStoreState
after_save store held = record store { files = held; saves = counted store.saves }

-- a store after a save that failed
abbrev pub after_failed_save : MemStoreState → MemStoreState
after_failed_save store =
    record store { saves = counted store.saves; save_faults = counted store.save_faults }

-- a store in memory that has no fault
pub record SureStoreState : Type 0 where
  -- the files; the first one with a name is that name's
  pub files : List HeldFile
  -- the sources that were opened and closed
  pub sources : SourcesSeen

-- such a store as each store is seen
abbrev pub seen_sure_store : SureStoreState → StoreSeen
seen_sure_store store = meant_store (Some (contents_of store.files)) store.sources 0 0
