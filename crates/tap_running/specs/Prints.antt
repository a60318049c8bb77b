-- What was printed of some lines, and of the line that says that memory ran out.
use Rattle.std.specs.Io.KnownBytes.{Appends}
use Rattle.std.specs.Prelude.{Bool, List, codes, false, true, ℕ, ◌≡◌, ◌⊎◌}
use Rattle.tap_outside.specs.Counts.{Rose}
use Rattle.tap_outside.specs.Seen.{SinkSeen}
use Rattle.tap_outside.specs.Sinks.{AppendsFront}

-- the lines were printed and no write failed, or a prefix of them was and printing failed
abbrev pub IsPrinted : SinkSeen → SinkSeen → List ℕ → Bool → Type 0
IsPrinted before after lines true =
    Appends before.written after.written lines × (after.faults ≡ before.faults)
IsPrinted before after lines false =
    Rose before.faults after.faults × AppendsFront before.written after.written lines

-- memory ran out before all lines were printed: a prefix of them was, and no write failed
pub record PrintedSome (before after : SinkSeen) (lines : List ℕ) : Type 0 where
  pub front : AppendsFront before.written after.written lines
  pub faultless : after.faults ≡ before.faults
  -- no fewer writes ran out of memory
  pub refused : (after.refused ≡ before.refused) ⊎ Rose before.refused after.refused

-- the line that is printed when memory ran out, after whatever was printed before
abbrev pub memory_line : List ℕ
memory_line = codes "out of memory\n"

-- after what was printed before, that line was printed whole, or a prefix of it was and the sink
-- has counted why: a write that failed, or one that ran out of memory too
abbrev pub IsLastLine : SinkSeen → SinkSeen → SinkSeen → Type 0
IsLastLine before told after =
    Appends told.written after.written memory_line
    ⊎ (AppendsFront told.written after.written memory_line
    × (Rose before.faults after.faults ⊎ Rose before.refused after.refused))
