-- What a reader's text says, over its bytes.
use Rattle.std.specs.Prelude.{ℕ, Bool, true, false, List, length, nat_lt, if◌then◌else◌}
use Rattle.std.specs.Prelude.{Option, None, Some, Result, Ok, Err}
use Rattle.text_lines.specs.Lines.{lines_of}
use Rattle.text_lines.specs.Readings.{read_lines}
use Rattle.reader_pace.specs.Drafts.{line_after, nothing_said}
use Rattle.reader_pace.specs.Values.{is_below_period}
use Rattle.reader_pace.specs.declared.drafts.Bounds.{Bounds}
use Rattle.reader_pace.specs.declared.drafts.ReaderDraft.{ReaderDraft}
use Rattle.reader_pace.specs.declared.paces.Beginnings.{Beginnings}
use Rattle.reader_pace.specs.declared.paces.Beginnings.TheVariants as beginnings
use Rattle.reader_pace.specs.declared.paces.Pace.{Pace}
use Rattle.reader_pace.specs.declared.paces.Pace.TheVariants as pace
use Rattle.reader_pace.specs.declared.paces.Phases.{Phases}
use Rattle.reader_pace.specs.declared.paces.Phases.TheVariants as phases
use Rattle.reader_pace.specs.declared.reader_error.ReaderError.{ReaderError}
use Rattle.reader_pace.specs.declared.reader_error.ReaderKind.{ReaderKind}
use Rattle.reader_pace.specs.declared.reader_error.ReaderKind.TheVariants.{BadFrom, BadPhase}
use Rattle.reader_pace.specs.declared.reader_error.ReaderKind.TheVariants.{Missing, TooLarge}
use Rattle.reader_pace.specs.declared.readers.PacedReader.{PacedReader}

-- ---- what the lines say together

-- the phases: all where no line says them, and 0 alone for slots, where no line may say any
unfoldable pub phases_after : Bool → Option Phases → Result Phases ReaderKind
phases_after true None = Ok (phases.One 0)
phases_after true (Some said) = Err BadPhase
phases_after false None = Ok phases.All
phases_after false (Some said) = Ok said

-- the beginnings: all where no line says them; one is below the period; and 0 alone for a reader
-- that wakes after each block, of which no line may say any
unfoldable pub beginnings_after : Pace → Option Beginnings → Result Beginnings ReaderKind
beginnings_after (pace.Poll delay) None = Ok (beginnings.One 0)
beginnings_after (pace.Poll delay) (Some said) = Err BadFrom
beginnings_after paced None = Ok beginnings.All
beginnings_after paced (Some beginnings.All) = Ok beginnings.All
beginnings_after paced (Some (beginnings.One from)) =
    if is_below_period paced from then Ok (beginnings.One from) else Err BadFrom

abbrev pub reader_from :
    ReaderDraft → Pace → Result Phases ReaderKind → Result Beginnings ReaderKind
    → Result PacedReader ReaderKind
reader_from draft paced (Ok phases) (Ok beginnings) = Ok (record {
  pace = paced;
  stalls = draft.stalls;
  phases = phases;
  beginnings = beginnings;
  more = draft.more;
  slots = draft.slots;
})
reader_from draft paced (Ok phases) (Err fault) = Err fault
reader_from draft paced (Err fault) beginnings = Err fault

abbrev pub with_pace : ReaderDraft → Option Pace → Result PacedReader ReaderKind
with_pace draft None = Err Missing
with_pace draft (Some paced) =
    reader_from draft paced (phases_after draft.slots draft.phases)
    (beginnings_after paced draft.beginnings)

-- what lines without a fault in any of them say together
unfoldable pub reader_after : ReaderDraft → Result PacedReader ReaderKind
reader_after draft = with_pace draft draft.pace

-- ---- the whole text

-- a fault of a line; line 0 means no single line
abbrev pub at_line : {A : Type 0} → Result A (ℕ × ReaderKind) → Result A ReaderError
at_line (Ok value) = Ok value
at_line (Err fault) = Err (record { line = fault.0; kind = fault.1 })

abbrev pub at_end : {A : Type 0} → Result A ReaderKind → Result A ReaderError
at_end (Ok value) = Ok value
at_end (Err fault) = Err (record { line = 0; kind = fault })

-- what the lines of a text say, or the first fault of a line
unfoldable pub draft_of : Bounds → List ℕ → Result ReaderDraft ReaderError
draft_of bounds text = at_line (read_lines (line_after bounds) 1 nothing_said (lines_of text))

abbrev pub completed : Result ReaderDraft ReaderError → Result PacedReader ReaderError
completed (Ok draft) = at_end (reader_after draft)
completed (Err error) = Err error

-- the reader of a text, for a setup of so many CPUs with this time-out, or the text's first fault
unfoldable pub reader_of : ℕ → ℕ → List ℕ → Result PacedReader ReaderError
reader_of cpus tov text =
    if nat_lt 1048576 (length text) then Err (record { line = 0; kind = TooLarge })
    else completed (draft_of (record { cpus = cpus; tov = tov }) text)
