-- A ring of a given size and the ring that always has a block more hand over at the same moments,
-- and so have the same events, as long as nothing is held.
use Rattle.std.proofs.Common.{◌≡◌, ◌↔◌, ℕ, ◌+◌, ◌≤◌, inl, inr, Bool, true, false, cond, List, [], ◌∷◌, ◌++◌}
use Rattle.std.proofs.Common.{Option, None, sym, ap, subst, ◌∙◌, arith}
use Rattle.std.specs.Prelude.{nat_lt}
use Rattle.poll_sizes.specs.Beats.{Beat, beats_from}
use Rattle.poll_sizes.specs.Polls.{all_beaten, course_done, events_by, first_polled_course, first_polled_pass}
use Rattle.poll_sizes.specs.Polls.{least_polled_of, pass_done, pass_events, polled_events, read_before, read_if, taken}
use Rattle.poll_sizes.specs.Wakes.{wake_after, wakes_before}
use Rattle.poll_sizes.specs.declared.polls.PollTiming.{PollTiming}
use Rattle.poll_sizes.specs.declared.polls.Polled.{Polled}
use Rattle.ring_events.specs.Happenings.{NeverFreezes}
use Rattle.ring_events.specs.declared.events.Happening.{Happening}
use Rattle.ring_model.specs.Ring.{Size}
use Rattle.ring_sizes.specs.Courses.{all_went_on, first_course, went_on}
use Rattle.ring_sizes.specs.EventLists.{events_of}
use Rattle.ring_sizes.specs.Passes.{first_pass, passed, passed_all}
use Rattle.ring_sizes.specs.declared.courses.Course.{Course}
use Rattle.ring_sizes.specs.declared.events.Event.{Event}
use Rattle.ring_sizes.specs.declared.events.Event.TheVariants.{ReadAll}
use Rattle.ring_sizes.specs.declared.paces.Arrival.{Arrival}
use Rattle.ring_sizes.specs.declared.paces.StallTime.{StallTime}
use Rattle.ring_sizes.specs.declared.sizes.Pass.{Pass}
use Rattle.ring_sizes.proofs.Never.{all_grow, never_iff}
use Rattle.ring_sizes.proofs.NoFreeze.{StepIs, course_by, step_is}
use Rattle.poll_sizes.proofs.Runs.{course_stepped, events_run, pass_stepped}

module _ (room blocks tov : ℕ) (stalls : List StallTime) (delay end : ℕ) where
  abbrev own : List Beat → Polled Pass → List Event
  own beats polled = events_by (passed room tov) pass_done stalls delay end beats polled

  abbrev others : List Beat → Polled Course → List Event
  others beats polled = events_by (went_on room blocks tov) course_done stalls delay end beats polled

  abbrev passing : Beat → Polled Pass → Polled Pass
  passing beat polled = taken (passed room tov) pass_done stalls delay beat polled

  abbrev going : Beat → Polled Course → Polled Course
  going beat polled = taken (went_on room blocks tov) course_done stalls delay beat polled

  -- a pass over either list tells the same of this number of blocks
  abbrev Same : List Event → List Event → Pass → Type 0
  Same one other pass = ((passed_all room tov one pass).least ≤ blocks) ↔ ((passed_all room tov other pass).least ≤ blocks)

  abbrev Alike : List Beat → Type 0
  Alike beats = (pass : Pass) (kept : ℕ) (wake : Option ℕ) → pass.least ≤ blocks
      → Same (own beats (record { ring = pass; wake = wake }))
      (others beats (record { ring = course_by pass kept; wake = wake })) pass

  -- an event after which the ring is still the same, or needs more blocks
  stepped : (beat : Beat) (beats : List Beat) (before : Pass) (later : Pass) (course : Course) (wake : Option ℕ)
      → Alike beats → StepIs blocks later course
      → Same (own beats (record {
        ring = later;
        wake = wake_after stalls (beat.at + delay) (nat_lt before.done later.done) wake;
      })) (others beats (record {
        ring = course;
        wake = wake_after stalls (beat.at + delay) (nat_lt before.done course.done) wake;
      })) later
  stepped beat beats before later course wake rest (inl h) =
      subst (λ (course : Course). Same (own beats (record {
        ring = later;
        wake = wake_after stalls (beat.at + delay) (nat_lt before.done later.done) wake;
      })) (others beats (record {
        ring = course;
        wake = wake_after stalls (beat.at + delay) (nat_lt before.done course.done) wake;
      })) later) (sym h.2)
      (rest later h.1 (wake_after stalls (beat.at + delay) (nat_lt before.done later.done) wake) h.0)
  stepped beat beats before later course wake rest (inr h) = (
    λ few. absurd (omega (
      arith,
      few,
      h.0,
      all_grow room tov (own beats (record {
        ring = later;
        wake = wake_after stalls (beat.at + delay) (nat_lt before.done later.done) wake;
      })) later,
    )),
    λ few. absurd (omega (
      arith,
      few,
      h.0,
      all_grow room tov (others beats (record {
        ring = course;
        wake = wake_after stalls (beat.at + delay) (nat_lt before.done course.done) wake;
      })) later,
    )),
  )

  after_read : (beat : Beat) (beats : List Beat) (pass : Pass) (kept : ℕ) (wake : Option ℕ) → pass.least ≤ blocks → Alike beats
      → Same (beat.event ∷ own beats (passing beat (record { ring = pass; wake = wake })))
      (beat.event ∷ others beats (going beat (record { ring = course_by pass kept; wake = wake }))) pass
  after_read beat beats pass kept wake few rest =
      stepped beat beats pass (passed room tov beat.event pass) (went_on room blocks tov beat.event (course_by pass kept)) wake
      rest (step_is room blocks tov beat.event pass kept few)

  beat_by : (before : Bool) (beat : Beat) (beats : List Beat) (pass : Pass) (kept : ℕ) (wake : Option ℕ) → pass.least ≤ blocks
      → Alike beats
      → Same (read_if before ++ beat.event ∷ own beats (passing beat
      (cond before (record { ring = passed room tov ReadAll pass; wake = None }) (record { ring = pass; wake = wake }))))
      (read_if before ++ beat.event ∷ others beats (going beat
      (cond before (record { ring = went_on room blocks tov ReadAll (course_by pass kept); wake = None })
      (record { ring = course_by pass kept; wake = wake })))) pass
  beat_by true beat beats pass kept wake few rest =
      after_read beat beats (record pass { released = pass.done }) kept None few rest
  beat_by false beat beats pass kept wake few rest = after_read beat beats pass kept wake few rest

  pub alike : (beats : List Beat) → Alike beats
  alike [] pass kept wake few = (λ h. h, λ h. h)
  alike (beat ∷ beats) pass kept wake few =
      beat_by (wakes_before beat.at wake) beat beats pass kept wake few (alike beats)

pub least_is : (room blocks : ℕ) (stalls : List StallTime) (pace : PollTiming) (arrivals : List Arrival) (end : ℕ)
    → 1 ≤ blocks
    → (least_polled_of room stalls pace arrivals end ≤ blocks)
    ↔ ((passed_all room pace.tov (polled_events room blocks stalls pace arrivals end) (first_pass pace.tov)).least ≤ blocks)
least_is room blocks stalls pace arrivals end some =
    alike room blocks pace.tov stalls pace.delay end (beats_from pace end 0 arrivals) (first_pass pace.tov) 0 None some

pub never_polled : (room blocks : ℕ) (stalls : List StallTime) (pace : PollTiming) (arrivals : List Arrival) (end : ℕ)
    (all : List Happening)
    → events_of all ≡ polled_events room blocks stalls pace arrivals end → 1 ≤ blocks
    → NeverFreezes (record { room = room; blocks = blocks; tov = pace.tov }) all
    ↔ (least_polled_of room stalls pace arrivals end ≤ blocks)
never_polled room blocks stalls pace arrivals end all same some =
    let size : Size = record { room = room; blocks = blocks; tov = pace.tov } in
    let first = never_iff size all some in
    let second = least_is room blocks stalls pace arrivals end some in
    let events = ap (λ (events : List Event). (passed_all room pace.tov events (first_pass pace.tov)).least) same in (
      λ never. second.1 (subst (λ (n : ℕ). n ≤ blocks) events (first.0 never)),
      λ few. first.1 (subst (λ (n : ℕ). n ≤ blocks) (sym events) (second.0 few)),
    )

pub least_some : (room : ℕ) (stalls : List StallTime) (pace : PollTiming) (arrivals : List Arrival) (end : ℕ)
    → 1 ≤ least_polled_of room stalls pace arrivals end
least_some room stalls pace arrivals end =
    all_grow room pace.tov (pass_events room stalls pace arrivals end) (first_pass pace.tov)

-- ---- the runs

pub pass_is : (room : ℕ) (stalls : List StallTime) (pace : PollTiming) (arrivals : List Arrival) (end : ℕ)
    → (read_before (passed room pace.tov) (end + 1) (all_beaten (passed room pace.tov) pass_done stalls pace.delay
    (beats_from pace end 0 arrivals) (first_polled_pass pace.tov))).ring
    ≡ passed_all room pace.tov (pass_events room stalls pace arrivals end) (first_pass pace.tov)
pass_is room stalls pace arrivals end =
    sym (events_run (passed room pace.tov) pass_done stalls pace.delay end (beats_from pace end 0 arrivals)
    (first_polled_pass pace.tov))
    ∙ sym (pass_stepped room pace.tov (pass_events room stalls pace arrivals end) (first_pass pace.tov))

pub course_is : (room blocks : ℕ) (stalls : List StallTime) (pace : PollTiming) (arrivals : List Arrival) (end : ℕ)
    → (read_before (went_on room blocks pace.tov) (end + 1) (all_beaten (went_on room blocks pace.tov) course_done stalls
    pace.delay (beats_from pace end 0 arrivals) (first_polled_course pace.tov))).ring
    ≡ all_went_on room blocks pace.tov (polled_events room blocks stalls pace arrivals end) (first_course pace.tov)
course_is room blocks stalls pace arrivals end =
    sym (events_run (went_on room blocks pace.tov) course_done stalls pace.delay end (beats_from pace end 0 arrivals)
    (first_polled_course pace.tov))
    ∙ sym (course_stepped room blocks pace.tov (polled_events room blocks stalls pace arrivals end) (first_course pace.tov))
