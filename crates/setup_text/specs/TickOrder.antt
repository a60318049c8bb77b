-- Schedules whose ticks never go back.
use Rattle.std.specs.Prelude.{ℕ, ◌≤◌, List, [], ◌∷◌}
use Rattle.setup_text.specs.declared.lines.Line.{Line}
use Rattle.setup_text.specs.declared.lines.Line.TheVariants.{Tick}

-- ticks, in milliseconds, that never go back from a moment on, none after the last moment that a
-- schedule can name
abbrev pub AreAscending : ℕ → List Line → Type 0
AreAscending clock [] = Unit {0}
AreAscending clock (Tick ms ∷ lines) = (clock ≤ ms) × (ms ≤ 4294967295) × AreAscending ms lines
AreAscending clock (line ∷ lines) = AreAscending clock lines

-- the lines of a schedule, whose ticks start at moment 0
abbrev pub IsSchedule : List Line → Type 0
IsSchedule lines = AreAscending 0 lines
