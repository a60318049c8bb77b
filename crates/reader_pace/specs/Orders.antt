-- What holds of every timeline.
use Rattle.std.specs.Prelude.{◌≡◌, ℕ, ◌≤◌, Bool, true, false, List, [], ◌∷◌}
use Rattle.setup_text.specs.declared.lines.Line.{Line}
use Rattle.setup_text.specs.declared.lines.Line.TheVariants as line
use Rattle.reader_pace.specs.Timelines.{Timed, is_stalled}
use Rattle.reader_pace.specs.declared.paces.Stall.{Stall}

-- moments that never go back, the first of which is this one or later
abbrev pub RiseFrom : ℕ → List Timed → Type 0
RiseFrom moment [] = Unit {0}
RiseFrom moment (item ∷ items) = (moment ≤ item.moment) × RiseFrom item.moment items

abbrev pub is_feed_line : Line → Bool
is_feed_line (line.Feed cpu) = true
is_feed_line line = false

-- whether an item feeds a frame
abbrev pub is_feed : Timed → Bool
is_feed item = is_feed_line item.line

abbrev pub IsAwakeAt : List Stall → ℕ → Line → Type 0
IsAwakeAt stalls moment (line.Read member) = is_stalled stalls moment ≡ false
IsAwakeAt stalls moment line = Unit {0}

-- a read isn't in a stall
abbrev pub IsAwake : List Stall → Timed → Type 0
IsAwake stalls item = IsAwakeAt stalls item.moment item.line

-- whether what comes at this moment comes by the end
abbrev pub ComesBy : ℕ → Timed → Type 0
ComesBy end item = item.moment ≤ end
