-- What is written to a sink, and the state of a sink in memory.
use Rattle.std.specs.Prelude.{◌≡◌, ◌≤◌, ℕ, List, ◌++◌, length, [], take, ⊤, Option, None, Some}
use Rattle.tap_outside.specs.Counts.{counted}
use Rattle.tap_outside.specs.Seen.{SinkSeen}

-- known bytes grow by a prefix of these
abbrev pub AppendsFront : Option (List ℕ) → Option (List ℕ) → List ℕ → Type 0
AppendsFront None new bytes = ⊤
AppendsFront (Some old) None bytes = ⊥
AppendsFront (Some old) (Some new) bytes =
    (n : ℕ) × (n ≤ length bytes) × (new ≡ old ++ take n bytes)

-- a sink in memory
pub record MemSinkState : Type 0 where
  -- the bytes written so far
  pub written : List ℕ
  -- the numbers, from 1, of the writes that fail
  pub failing : List ℕ
  -- the number of writes so far, except those that ran out of memory
  pub writes : ℕ
  -- the number of those that failed
  pub faults : ℕ
  -- the number of writes that ran out of memory
  pub refused : ℕ

-- the view of such a sink: it reports what was written
abbrev pub seen_sink : MemSinkState → SinkSeen
seen_sink sink =
    record { written = Some sink.written; faults = sink.faults; refused = sink.refused }

-- a sink before its first write
abbrev pub fresh_sink : List ℕ → MemSinkState
fresh_sink numbers =
    record { written = []; failing = numbers; writes = 0; faults = 0; refused = 0 }

-- a sink after a write of these bytes
abbrev pub after_write : MemSinkState → List ℕ → MemSinkState
after_write sink bytes =
    record sink { written = sink.written ++ bytes; writes = counted sink.writes }

-- a sink after a write that failed
abbrev pub after_failed_write : MemSinkState → MemSinkState
after_failed_write sink =
    record sink { writes = counted sink.writes; faults = counted sink.faults }

-- a sink after a write that ran out of memory
abbrev pub after_refusal : MemSinkState → MemSinkState
after_refusal sink = record sink { refused = counted sink.refused }
