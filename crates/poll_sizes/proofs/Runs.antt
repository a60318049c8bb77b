-- A ring beside its own reader, and the events of both.
use Rattle.std.proofs.Common.{◌≡◌, ℕ, ◌+◌, Bool, true, false, cond, List, [], ◌∷◌, ◌++◌, refl, None}
use Rattle.poll_sizes.specs.Beats.{Beat}
use Rattle.poll_sizes.specs.Polls.{all_beaten, beaten, events_by, read_before, read_if, taken}
use Rattle.poll_sizes.specs.declared.polls.Polled.{Polled}
use Rattle.ring_sizes.specs.Courses.{all_went_on, went_on}
use Rattle.ring_sizes.specs.Passes.{passed, passed_all}
use Rattle.ring_sizes.specs.declared.courses.Course.{Course}
use Rattle.ring_sizes.specs.declared.events.Event.{Event}
use Rattle.ring_sizes.specs.declared.events.Event.TheVariants.{ReadAll}
use Rattle.ring_sizes.specs.declared.paces.StallTime.{StallTime}
use Rattle.ring_sizes.specs.declared.sizes.Pass.{Pass}

abbrev pub all_stepped : {R : Type 0} → (Event → R → R) → List Event → R → R
all_stepped step [] ring = ring
all_stepped step (event ∷ events) ring = all_stepped step events (step event ring)

module _ {R : Type 0} (step : Event → R → R) (done : R → ℕ) (stalls : List StallTime) (delay : ℕ) where
  abbrev run : List Beat → Polled R → Polled R
  run beats polled = all_beaten step done stalls delay beats polled

  pub run_append : (beats more : List Beat) (polled : Polled R) → run (beats ++ more) polled ≡ run more (run beats polled)
  run_append [] more polled = refl
  run_append (beat ∷ beats) more polled = run_append beats more (beaten step done stalls delay beat polled)

  -- ---- the events are those of the run

  abbrev read : Polled R → Polled R
  read polled = record { ring = step ReadAll polled.ring; wake = None }

  ends_by : (before : Bool) (polled : Polled R)
      → all_stepped step (read_if before) polled.ring ≡ (cond before (read polled) polled).ring
  ends_by true polled = refl
  ends_by false polled = refl

  module _ (end : ℕ) where
    abbrev IsRun : List Beat → Polled R → Type 0
    IsRun beats polled =
        all_stepped step (events_by step done stalls delay end beats polled) polled.ring
        ≡ (read_before step (end + 1) (run beats polled)).ring

    beat_by : (before : Bool) (beat : Beat) (beats : List Beat) (polled : Polled R)
        → ((later : Polled R) → IsRun beats later)
        → let later = taken step done stalls delay beat (cond before (read polled) polled) in
        all_stepped step (read_if before ++ beat.event ∷ events_by step done stalls delay end beats later) polled.ring
        ≡ (read_before step (end + 1) (run beats later)).ring
    beat_by true beat beats polled rest = rest (taken step done stalls delay beat (read polled))
    beat_by false beat beats polled rest = rest (taken step done stalls delay beat polled)

    pub events_run : (beats : List Beat) (polled : Polled R) → IsRun beats polled
    events_run [] polled = ends_by _ polled
    events_run (beat ∷ beats) polled = beat_by _ beat beats polled (events_run beats)

pub pass_stepped : (room tov : ℕ) (events : List Event) (pass : Pass)
    → passed_all room tov events pass ≡ all_stepped (passed room tov) events pass
pass_stepped room tov [] pass = refl
pass_stepped room tov (event ∷ events) pass = pass_stepped room tov events (passed room tov event pass)

pub course_stepped : (room blocks tov : ℕ) (events : List Event) (course : Course)
    → all_went_on room blocks tov events course ≡ all_stepped (went_on room blocks tov) events course
course_stepped room blocks tov [] course = refl
course_stepped room blocks tov (event ∷ events) course =
    course_stepped room blocks tov events (went_on room blocks tov event course)
