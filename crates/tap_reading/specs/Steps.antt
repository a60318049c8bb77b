-- What one line adds to the ticks and to a schedule, as a step of the reading of their lines.
use Rattle.std.specs.Prelude.{ℕ, List, Result}
use Rattle.setup_text.specs.declared.lines.Line.{Line}
use Rattle.setup_text.specs.Moments.{added, latest, moment_in}
use Rattle.setup_text.specs.Schedules.{clock_of, line_in}
use Rattle.setup_text.specs.declared.text_error.TextKind.{TextKind}

-- the moments with that of a line, which isn't less than the last of them
abbrev pub ticks_after : List ℕ → List ℕ → Result (List ℕ) TextKind
ticks_after = added (λ moments line. moment_in (latest moments) line)

-- the lines of a schedule with one more, for these numbers of CPUs and members
abbrev pub schedule_after : ℕ → ℕ → List Line → List ℕ → Result (List Line) TextKind
schedule_after cpus members = added (λ lines line. line_in cpus members (clock_of lines) line)
