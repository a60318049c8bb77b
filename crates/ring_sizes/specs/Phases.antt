-- Numbers at each beginning of a timer and a reader: the first at which one is greatest or least.
use Rattle.std.specs.Prelude.{◌≡◌, ℕ, ◌*◌, ◌<◌, ◌≤◌, ◌^◌, ◌⊎◌, List, nat_lt}
use Rattle.std.specs.Prelude.{if◌then◌else◌, ◌==◌, ◌&&◌, ◌||◌}
use Rattle.std.specs.List.{sum_by}
use Rattle.ring_sizes.specs.Courses.{all_went_on, first_course}
use Rattle.ring_sizes.specs.Passes.{first_pass, passed_all}
use Rattle.ring_sizes.specs.Schedules.{schedule_to}
use Rattle.ring_sizes.specs.declared.paces.Arrival.{Arrival}
use Rattle.ring_sizes.specs.declared.paces.Timing.{Timing}
use Rattle.ring_sizes.specs.declared.paces.StallTime.{StallTime}
use Rattle.ring_sizes.specs.declared.tries.Reached.{Reached}
use Rattle.ring_sizes.specs.declared.tries.Tries.{Tries}

-- a timer that was started so many milliseconds before the first frame, and a reader that begins so
-- many milliseconds after it
abbrev pub begun : Timing → ℕ → ℕ → Timing
begun pace phase from = record pace { phase = phase; start = from * 1000000 }

-- the number of blocks that a pass over the schedule reports
abbrev pub least_of : ℕ → List StallTime → Timing → List Arrival → ℕ → ℕ
least_of room stalls pace arrivals end =
    (passed_all room pace.tov (schedule_to stalls pace arrivals end) (first_pass pace.tov)).least

-- the packets that a course over the schedule drops
abbrev pub drops_of : ℕ → ℕ → List StallTime → Timing → List Arrival → ℕ → ℕ
drops_of room blocks stalls pace arrivals end =
    (all_went_on room blocks pace.tov (schedule_to stalls pace arrivals end)
    (first_course pace.tov)).dropped

-- the packets that the courses of some members drop together
abbrev pub drops_of_all :
    ℕ → ℕ → List StallTime → Timing → List (List Arrival) → ℕ → ℕ
drops_of_all room blocks stalls pace members end =
    sum_by (λ arrivals. drops_of room blocks stalls pace arrivals end) members

-- a phase of the timer that is tried, in milliseconds
abbrev pub IsPhase : Tries → ℕ → Type 0
IsPhase tries phase = (tries.first_phase ≤ phase) × (phase < tries.phase_end)

-- a beginning of the reader that is tried, in milliseconds
abbrev pub IsBeginning : Tries → ℕ → Type 0
IsBeginning tries from = (tries.first_from ≤ from) × (from < tries.from_end)

-- a valid timer and reader, of which some phases are tried, each below the time-out, and some
-- beginnings
pub record AreTried (pace : Timing) (tries : Tries) : Type 0 where
  pub tov : pace.tov < 2 ^ 32
  pub span : 0 < pace.span
  pub brief : pace.span < 2 ^ 60
  pub parts : 0 < pace.parts
  pub quick : pace.parts ≤ 8 * pace.span
  pub phases : tries.first_phase < tries.phase_end
  pub below : tries.phase_end ≤ pace.tov
  pub beginnings : tries.first_from < tries.from_end

-- an earlier phase than the one found, or an earlier beginning at the same phase
abbrev pub IsEarlier : ℕ → ℕ → Reached → Type 0
IsEarlier phase from found =
    (phase < found.phase) ⊎ ((phase ≡ found.phase) × (from < found.from))

-- of what is tried the first at which a number is reached that stands so to each other one, and
-- to each earlier one so
pub record IsFirst (Best Better : ℕ → ℕ → Type 0) (tries : Tries) (number_at : ℕ → ℕ → ℕ)
    (found : Reached) : Type 0 where
  pub phase : IsPhase tries found.phase
  pub from : IsBeginning tries found.from
  pub reached : found.number ≡ number_at found.phase found.from
  pub best : (phase from : ℕ) → IsPhase tries phase → IsBeginning tries from
      → Best found.number (number_at phase from)
  pub first : (phase from : ℕ) → IsPhase tries phase → IsBeginning tries from
      → IsEarlier phase from found → Better found.number (number_at phase from)

-- the first at which the number is greatest
abbrev pub IsFirstMost : Tries → (ℕ → ℕ → ℕ) → Reached → Type 0
IsFirstMost tries number_at found =
    IsFirst (λ number other. other ≤ number) (λ number other. other < number) tries number_at found

-- the first at which the number is least
abbrev pub IsFirstFewest : Tries → (ℕ → ℕ → ℕ) → Reached → Type 0
IsFirstFewest tries number_at found =
    IsFirst (λ number other. number ≤ other) (λ number other. number < other) tries number_at found

-- the one with the greater number; of equal ones the first
abbrev pub or_more : Reached → Reached → Reached
or_more found other = if nat_lt found.number other.number then other else found

-- the one with the lesser number; of equal ones the first
abbrev pub or_fewer : Reached → Reached → Reached
or_fewer found other = if nat_lt other.number found.number then other else found

-- the one with the greater number; of equal ones that at the earlier phase, or else the first
abbrev pub more_first : Reached → Reached → Reached
more_first found other =
    if nat_lt found.number other.number
    || (found.number == other.number && nat_lt other.phase found.phase) then other else found

-- the one with the lesser number; of equal ones that at the earlier phase, or else the first
abbrev pub fewer_first : Reached → Reached → Reached
fewer_first found other =
    if nat_lt other.number found.number
    || (found.number == other.number && nat_lt other.phase found.phase) then other else found
