-- The numbers of rings stay small.
use Rattle.std.proofs.Common.{◌≡◌, ℕ, zero, suc, ◌+◌, ◌-◌, ◌*◌, ◌<◌, ◌≤◌, ◌^◌, Bool, true, false, cond, List, ◌∷◌}
use Rattle.std.proofs.Common.{map, replicate, sym, subst, arith}
use Rattle.std.specs.Prelude.{All, nat_lt}
use Rattle.std.proofs.lemmas.List.Elements.{All-map}
use Rattle.ring_sizes.specs.Courses.{IsSmall, all_went_on, at_due, is_free, opened, went_on}
use Rattle.ring_sizes.specs.Schedules.{awake, beats, beats_between, step_event, steps_before, steps_from, tick_moment}
use Rattle.ring_sizes.specs.Schedules.{ticks_by}
use Rattle.ring_sizes.specs.declared.courses.Course.{Course}
use Rattle.ring_sizes.specs.declared.courses.CourseBlock.{CourseBlock}
use Rattle.ring_sizes.specs.declared.courses.CourseBlock.TheVariants.{Frozen, Empty, Filled}
use Rattle.ring_sizes.specs.declared.events.Event.{Event}
use Rattle.ring_sizes.specs.declared.events.Event.TheVariants.{Tick}
use Rattle.ring_sizes.specs.declared.paces.StallTime.{StallTime}
use Rattle.ring_sizes.specs.declared.paces.Timing.{Timing}
use Rattle.ring_sizes.proofs.CourseGaps.{read_small, reads_go, run_append, smaller}
use Rattle.ring_sizes.proofs.Counts.{ticks_rise}
use Rattle.ring_sizes.proofs.Small.{stays_small}

-- ---- what comes between two frames

free_used : (course : Course) (free : Bool) → course.used < 2 ^ 32
    → (cond free (record course { done = course.done + opened course.block; used = 0; block = Empty })
    (record course {
      done = course.done + opened course.block;
      used = 0;
      block = Frozen;
      freezes = course.freezes + opened course.block;
    })).used < 2 ^ 32
free_used course true h = omega (arith, h)
free_used course false h = omega (arith, h)

due_used : (blocks : ℕ) (block : CourseBlock) (course : Course) → course.used < 2 ^ 32
    → (at_due blocks block course).used < 2 ^ 32
due_used blocks Frozen course h = free_used course (is_free blocks course) h
due_used blocks Empty course h = h
due_used blocks Filled course h = free_used course (is_free blocks course) h

tick_used : (blocks tov ms : ℕ) (course : Course) (early : Bool) → course.used < 2 ^ 32
    → (cond early (record course { clock = ms })
    (record (at_due blocks course.block course) { clock = ms; deadline = ms + tov })).used < 2 ^ 32
tick_used blocks tov ms course true h = h
tick_used blocks tov ms course false h = due_used blocks course.block course h

module _ (room blocks : ℕ) (stalls : List StallTime) (pace : Timing) where
  abbrev go : List Event → Course → Course
  go events course = all_went_on room blocks pace.tov events course

  reads_small : (bound steps : ℕ) (course : Course) → IsSmall bound course
      → IsSmall bound (go (replicate steps (step_event pace.takes_all)) course)
  reads_small bound steps course h =
      subst (IsSmall bound) (sym (reads_go room blocks pace.tov pace.takes_all steps course))
      (read_small bound pace.takes_all steps course h)

  -- so many steps come between two moments
  abbrev steps_in : ℕ → ℕ → ℕ
  steps_in since at =
      awake stalls pace (steps_before pace since) (steps_before pace at - steps_before pace since)

  -- each tick retires at most one block
  beats_small : (more ticks since at bound : ℕ) (course : Course) → IsSmall bound course
      → IsSmall (bound + more) (go (beats stalls pace more ticks since at) course)
  beats_small zero ticks since at bound course h =
      smaller bound (bound + 0) (go (beats stalls pace 0 ticks since at) course) (omega arith)
      (reads_small bound (steps_in since at) course h)
  beats_small (suc more) ticks since at bound course h =
      let next = tick_moment pace (ticks + 1) in
      let rest = beats stalls pace more (ticks + 1) next at in
      let tick = Tick ((ticks + 1) * pace.tov) in
      let read : Course = go (steps_from stalls pace since next) course in
      let small : IsSmall bound read = reads_small bound (steps_in since next) course h in
      let later : IsSmall (bound + 1) (went_on room blocks pace.tov tick read) =
      stays_small bound room blocks pace.tov tick read small
      (tick_used blocks pace.tov ((ticks + 1) * pace.tov) read (nat_lt ((ticks + 1) * pace.tov) read.deadline) small.used) in
      subst (IsSmall (bound + suc more)) (sym (run_append room blocks pace.tov (steps_from stalls pace since next) (tick ∷ rest)
      course))
      (smaller (bound + 1 + more) (bound + suc more) (go rest (went_on room blocks pace.tov tick read)) (omega arith)
      (beats_small more (ticks + 1) next at (bound + 1) (went_on room blocks pace.tov tick read) later))

  pub all_small : (bound other more ticks since at : ℕ) (courses later : List Course) → bound + more ≤ other
      → later ≡ map (go (beats stalls pace more ticks since at)) courses → All (IsSmall bound) courses
      → All (IsSmall other) later
  all_small bound other more ticks since at courses later few is h =
      subst (All (IsSmall other)) (sym is)
      (All-map (IsSmall other) (go (beats stalls pace more ticks since at)) courses
      (λ k default inside. smaller (bound + more) other _ few
      (beats_small more ticks since at bound _ (h k default inside))))

  -- between two frames
  pub gap_small : 0 < pace.tov → (bound since at : ℕ) (courses later : List Course) → since ≤ at
      → later ≡ map (go (beats_between stalls pace since at)) courses → All (IsSmall (bound + ticks_by pace since)) courses
      → All (IsSmall (bound + ticks_by pace at)) later
  gap_small some bound since at courses later rises is h =
      let ticks = ticks_rise pace since at some rises in
      all_small (bound + ticks_by pace since) (bound + ticks_by pace at) (ticks_by pace at - ticks_by pace since)
      (ticks_by pace since) since at courses later (omega (arith, ticks)) is h

pub all_smaller : (bound other : ℕ) (courses : List Course) → bound ≤ other → All (IsSmall bound) courses
    → All (IsSmall other) courses
all_smaller bound other courses more h = λ k default inside. smaller bound other _ more (h k default inside)
