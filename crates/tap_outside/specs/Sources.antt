-- The state of a source in memory.
use Rattle.std.specs.Prelude.{ℕ, List, [], ◌++◌, length, min, drop, take, Some}
use Rattle.tap_outside.specs.Counts.{counted}
use Rattle.tap_outside.specs.Seen.{SourceSeen}

-- a source in memory
pub record MemSourceState : Type 0 where
  -- the name of its file; no byte where it isn't that of one
  pub name : List ℕ
  -- the bytes still to come
  pub left : List ℕ
  -- the bytes that its reads gave so far
  pub given : List ℕ
  -- the most bytes that one read gives
  pub piece : ℕ
  -- the numbers, from 1, of the reads that fail
  pub failing : List ℕ
  -- the number of reads so far
  pub reads : ℕ
  -- the number of those that failed
  pub faults : ℕ

-- the view of such a source: it reports what is left
abbrev pub seen_source : MemSourceState → SourceSeen
seen_source source =
    record {
      name = source.name;
      left = Some source.left;
      given = source.given;
      faults = source.faults;
    }

-- a source before its first read
abbrev pub fresh_source : List ℕ → ℕ → List ℕ → MemSourceState
fresh_source bytes most numbers =
    record {
      name = [];
      left = bytes;
      given = [];
      piece = most;
      failing = numbers;
      reads = 0;
      faults = 0;
    }

-- a source after a read of n bytes
abbrev pub after_read : MemSourceState → ℕ → MemSourceState
after_read source n =
    record source {
      left = drop n source.left;
      given = source.given ++ take n source.left;
      reads = counted source.reads;
    }

-- a source after a read that failed
abbrev pub after_failed_read : MemSourceState → MemSourceState
after_failed_read source =
    record source { reads = counted source.reads; faults = counted source.faults }

-- how many bytes a read into a buffer of this size gives
abbrev pub read_length : MemSourceState → ℕ → ℕ
read_length source room = min room (min source.piece (length source.left))

-- a source in memory that never fails
pub record SureSourceState : Type 0 where
  -- the name of its file; no byte where it isn't that of one
  pub name : List ℕ
  -- the bytes still to come
  pub left : List ℕ
  -- the bytes that its reads gave so far
  pub given : List ℕ

-- the view of such a source: it reports what is left, and has no fault
abbrev pub seen_sure_source : SureSourceState → SourceSeen
seen_sure_source source =
    record { name = source.name; left = Some source.left; given = source.given; faults = 0 }

-- such a source before its first read
abbrev pub unread_sure_source : List ℕ → SureSourceState
unread_sure_source bytes = record { name = []; left = bytes; given = [] }
