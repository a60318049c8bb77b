-- A ring beside its own reader, which wakes some time after a block of this ring is handed over,
-- and then reads all that is there. At one moment ticks come first, then frames, then the reader.
use Rattle.std.specs.Prelude.{ℕ, ◌+◌, Bool, true, false, nat_lt, if◌then◌else◌}
use Rattle.std.specs.Prelude.{List, [], ◌∷◌, ◌++◌, None}
use Rattle.poll_sizes.specs.Beats.{Beat, beats_from}
use Rattle.poll_sizes.specs.Wakes.{wake_after, wakes_before}
use Rattle.poll_sizes.specs.declared.polls.PollTiming.{PollTiming}
use Rattle.poll_sizes.specs.declared.polls.Polled.{Polled}
use Rattle.ring_sizes.specs.Courses.{all_went_on, first_course, went_on}
use Rattle.ring_sizes.specs.Passes.{first_pass, passed, passed_all}
use Rattle.ring_sizes.specs.declared.courses.Course.{Course}
use Rattle.ring_sizes.specs.declared.events.Event.{Event}
use Rattle.ring_sizes.specs.declared.events.Event.TheVariants.{ReadAll}
use Rattle.ring_sizes.specs.declared.paces.Arrival.{Arrival}
use Rattle.ring_sizes.specs.declared.paces.StallTime.{StallTime}
use Rattle.ring_sizes.specs.declared.sizes.Pass.{Pass}

-- ---- a ring of which this is what an event makes of it, and how many blocks it has handed over

-- after the reader, if it wakes before a moment
abbrev pub read_before : {R : Type 0} → (Event → R → R) → ℕ → Polled R → Polled R
read_before step at polled =
    if wakes_before at polled.wake
    then record { ring = step ReadAll polled.ring; wake = None } else polled

-- after an event at which the reader is to wake later, if a block is handed over
abbrev pub taken : {R : Type 0} → (Event → R → R) → (R → ℕ) → List StallTime → ℕ → Beat
    → Polled R → Polled R
taken step done stalls delay beat polled =
    let ring = step beat.event polled.ring in
    record {
      ring = ring;
      wake = wake_after stalls (beat.at + delay) (nat_lt (done polled.ring) (done ring))
          polled.wake;
    }

-- after the reader, if it wakes before the event, and the event
abbrev pub beaten : {R : Type 0} → (Event → R → R) → (R → ℕ) → List StallTime → ℕ → Beat
    → Polled R → Polled R
beaten step done stalls delay beat polled =
    taken step done stalls delay beat (read_before step beat.at polled)

abbrev pub all_beaten : {R : Type 0} → (Event → R → R) → (R → ℕ) → List StallTime → ℕ
    → List Beat → Polled R → Polled R
all_beaten step done stalls delay [] polled = polled
all_beaten step done stalls delay (beat ∷ beats) polled =
    all_beaten step done stalls delay beats (beaten step done stalls delay beat polled)

-- the reader reads, if it wakes in time
abbrev pub read_if : Bool → List Event
read_if true = ReadAll ∷ []
read_if false = []

-- the events of a run that ends at a moment, those of the reader among them
abbrev pub events_by : {R : Type 0} → (Event → R → R) → (R → ℕ) → List StallTime → ℕ → ℕ
    → List Beat → Polled R → List Event
events_by step done stalls delay end [] polled = read_if (wakes_before (end + 1) polled.wake)
events_by step done stalls delay end (beat ∷ beats) polled =
    read_if (wakes_before beat.at polled.wake)
    ++ beat.event
    ∷ events_by step done stalls delay end beats (beaten step done stalls delay beat polled)

-- ---- a ring of so many blocks

abbrev pub course_done : Course → ℕ
course_done course = course.done

abbrev pub first_polled_course : ℕ → Polled Course
first_polled_course tov = record { ring = first_course tov; wake = None }

-- the events of a ring of so many blocks with these frames in a run that ends at a moment: its
-- reader wakes after the blocks that this ring hands over
abbrev pub polled_events : ℕ → ℕ → List StallTime → PollTiming → List Arrival → ℕ → List Event
polled_events room blocks stalls pace arrivals end =
    events_by (went_on room blocks pace.tov) course_done stalls pace.delay end
    (beats_from pace end 0 arrivals) (first_polled_course pace.tov)

-- the packets that a course over them drops
abbrev pub polled_drops_of : ℕ → ℕ → List StallTime → PollTiming → List Arrival → ℕ → ℕ
polled_drops_of room blocks stalls pace arrivals end =
    (all_went_on room blocks pace.tov (polled_events room blocks stalls pace arrivals end)
    (first_course pace.tov)).dropped

-- ---- a ring that always has a block more

abbrev pub pass_done : Pass → ℕ
pass_done pass = pass.done

abbrev pub first_polled_pass : ℕ → Polled Pass
first_polled_pass tov = record { ring = first_pass tov; wake = None }

-- its events, by a reader that wakes after the blocks that it hands over
abbrev pub pass_events : ℕ → List StallTime → PollTiming → List Arrival → ℕ → List Event
pass_events room stalls pace arrivals end =
    events_by (passed room pace.tov) pass_done stalls pace.delay end
    (beats_from pace end 0 arrivals) (first_polled_pass pace.tov)

-- the number of blocks that a pass over them reports
abbrev pub least_polled_of : ℕ → List StallTime → PollTiming → List Arrival → ℕ → ℕ
least_polled_of room stalls pace arrivals end =
    (passed_all room pace.tov (pass_events room stalls pace arrivals end)
    (first_pass pace.tov)).least
