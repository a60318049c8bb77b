-- What is tried of a reader: the phases of the timer and the beginnings of the reader.
use Rattle.std.specs.Prelude.{ℕ, ◌+◌, ◌/◌}
use Rattle.std.specs.Prelude.{Option, None, Some}
use Rattle.reader_pace.specs.declared.paces.Beginnings.{Beginnings}
use Rattle.reader_pace.specs.declared.paces.Beginnings.TheVariants as beginnings
use Rattle.reader_pace.specs.declared.paces.Pace.{Pace}
use Rattle.reader_pace.specs.declared.paces.Pace.TheVariants as pace
use Rattle.reader_pace.specs.declared.paces.Phases.{Phases}
use Rattle.reader_pace.specs.declared.paces.Phases.TheVariants as phases
use Rattle.reader_pace.specs.declared.readers.PacedReader.{PacedReader}
use Rattle.ring_sizes.specs.declared.tries.Tries.{Tries}
use Rattle.tap_sizes.specs.declared.outcomes.Unanswered.{Unanswered}
use Rattle.tap_sizes.specs.declared.outcomes.Unanswered.TheVariants.{Poll}

-- ---- what the program can't answer yet

abbrev pub unanswered_pace : Pace → Option Unanswered
unanswered_pace (pace.Pause period) = None
unanswered_pace (pace.Poll delay) = Some Poll
unanswered_pace (pace.Blocks count) = None

abbrev pub unanswered_by : PacedReader → Option Unanswered
unanswered_by reader = unanswered_pace reader.pace

-- ---- what is tried

-- how many whole milliseconds are below the period of a reader
abbrev pub beginnings_below : Pace → ℕ
beginnings_below (pace.Pause period) = period
beginnings_below (pace.Poll delay) = 1
beginnings_below (pace.Blocks count) = (999 + count) / count

-- the first phase that is tried, and the one after the last
abbrev pub first_phase_of : Phases → ℕ
first_phase_of phases.All = 0
first_phase_of (phases.One phase) = phase

abbrev pub phase_end_of : ℕ → Phases → ℕ
phase_end_of tov phases.All = tov
phase_end_of tov (phases.One phase) = phase + 1

-- the first beginning that is tried, and the one after the last
abbrev pub first_from_of : Beginnings → ℕ
first_from_of beginnings.All = 0
first_from_of (beginnings.One from) = from

abbrev pub from_end_of : Pace → Beginnings → ℕ
from_end_of paced beginnings.All = beginnings_below paced
from_end_of paced (beginnings.One from) = from + 1

-- the phases and the beginnings of a reader that are tried, for this time-out
abbrev pub tries_by : PacedReader → ℕ → Tries
tries_by reader tov = record {
  first_phase = first_phase_of reader.phases;
  phase_end = phase_end_of tov reader.phases;
  first_from = first_from_of reader.beginnings;
  from_end = from_end_of reader.pace reader.beginnings;
}
