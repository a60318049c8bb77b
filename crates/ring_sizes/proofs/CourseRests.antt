-- Ticks of an empty block, for a ring of a given size.
use Rattle.std.proofs.Common.{◌≡◌, ℕ, zero, suc, ◌+◌, ◌-◌, ◌*◌, ◌<◌, ◌≤◌, ◌^◌, Bool, true, false, cond, List, ◌∷◌}
use Rattle.std.proofs.Common.{replicate, refl, sym, ap, subst, ◌∙◌, arith}
use Rattle.std.specs.Prelude.{nat_le, nat_lt, ◌&&◌}
use Rattle.std.proofs.Math.Nat.{mul-le-mul_right}
use Rattle.std.proofs.lemmas.Grind.{common_steps}
use Rattle.std.proofs.lemmas.List.{replicate-append-replicate}
use Rattle.ring_sizes.specs.Courses.{IsSmall, all_went_on, at_due, is_empty, over_time}
use Rattle.ring_sizes.specs.Rests.{course_last, course_read, is_still}
use Rattle.ring_sizes.specs.Schedules.{IsPace, awake, beats, step_event, steps_before, steps_from, tick_moment, ticks_by}
use Rattle.ring_sizes.specs.declared.courses.CourseBlock.{CourseBlock}
use Rattle.ring_sizes.specs.declared.courses.CourseBlock.TheVariants.{Empty, Filled, Frozen}
use Rattle.ring_sizes.specs.declared.courses.Course.{Course}
use Rattle.ring_sizes.specs.declared.events.Event.{Event}
use Rattle.ring_sizes.specs.declared.events.Event.TheVariants.{Tick}
use Rattle.ring_sizes.specs.declared.paces.Timing.{Timing}
use Rattle.ring_sizes.specs.declared.paces.StallTime.{StallTime}
use Rattle.ring_sizes.proofs.Counts.{moments_rise, steps_rise, tick_comes}
use Rattle.ring_sizes.proofs.CourseGaps.{reads_go, rest_goes, run_append, smaller}
use Rattle.ring_sizes.proofs.Gaps.{not_early}
use Rattle.ring_sizes.proofs.ReaderSteps.{awake_join}
use Rattle.ring_sizes.proofs.Small.{stays_small}

reads_join : (takes_all : Bool) (steps more : ℕ) (course : Course)
    → course_read takes_all more (course_read takes_all steps course) ≡ course_read takes_all (steps + more) course
reads_join takes_all steps more course =
    sym (reads_go 0 0 0 takes_all more (course_read takes_all steps course))
    ∙ ap (all_went_on 0 0 0 (replicate more (step_event takes_all))) (sym (reads_go 0 0 0 takes_all steps course))
    ∙ sym (run_append 0 0 0 (replicate steps (step_event takes_all)) (replicate more (step_event takes_all)) course)
    ∙ ap (λ (events : List Event). all_went_on 0 0 0 events course)
    (replicate-append-replicate steps more (step_event takes_all))
    ∙ reads_go 0 0 0 takes_all (steps + more) course

-- an empty block of which the time is over
due_by : (blocks tov ms : ℕ) (course : Course) (early : Bool) → early ≡ false → course.block ≡ Empty
    → cond early (record course { clock = ms })
    (record (at_due blocks course.block course) { clock = ms; deadline = ms + tov })
    ≡ record course { clock = ms; deadline = ms + tov }
due_by blocks tov ms course true e empty = absurd (grind (arith, common_steps, e))
due_by blocks tov ms course false e empty =
    ap (λ (block : CourseBlock). record (at_due blocks block course) { clock = ms; deadline = ms + tov }) empty

due_empty : (blocks tov ms : ℕ) (course : Course) → course.block ≡ Empty → course.deadline ≤ ms
    → over_time blocks tov ms course ≡ record course { clock = ms; deadline = ms + tov }
due_empty blocks tov ms course empty due =
    due_by blocks tov ms course (nat_lt ms course.deadline)
    (not_early ms course.deadline (nat_lt ms course.deadline) refl due) empty

module _ (room blocks : ℕ) (stalls : List StallTime) (pace : Timing) (sound : IsPace pace) where
  abbrev go : List Event → Course → Course
  go events course = all_went_on room blocks pace.tov events course

  abbrev upto : ℕ → ℕ
  upto at = steps_before pace at

  abbrev read : ℕ → ℕ → Course → Course
  read since at course =
      course_read pace.takes_all (awake stalls pace (upto since) (upto at - upto since)) course

  -- the course at this tick, with an empty block
  abbrev at_tick : ℕ → Course → Course
  at_tick number course = record course { clock = number * pace.tov; deadline = number * pace.tov + pace.tov }

  join : (since middle at : ℕ) (course : Course) → since ≤ middle → middle ≤ at
      → read middle at (read since middle course) ≡ read since at course
  join since middle at course early late =
      let soon = steps_rise pace since middle sound early in
      let rest = steps_rise pace middle at sound late in
      let a : upto since + (upto middle - upto since) ≡ upto middle = omega (arith, soon) in
      let b : upto middle - upto since + (upto at - upto middle) ≡ upto at - upto since = omega (arith, soon, rest) in
      reads_join pace.takes_all (awake stalls pace (upto since) (upto middle - upto since))
      (awake stalls pace (upto middle) (upto at - upto middle)) course
      ∙ ap (λ (n : ℕ). course_read pace.takes_all n course)
      (ap (λ (n : ℕ). awake stalls pace (upto since) (upto middle - upto since) + awake stalls pace n (upto at - upto middle))
      (sym a)
      ∙ awake_join stalls pace (upto since) (upto middle - upto since) (upto at - upto middle)
      ∙ ap (awake stalls pace (upto since)) b)

  head_goes : (more ticks since at : ℕ) (course : Course)
      → let next = tick_moment pace (ticks + 1) in
      go (beats stalls pace (suc more) ticks since at) course
      ≡ go (beats stalls pace more (ticks + 1) next at)
      (over_time blocks pace.tov ((ticks + 1) * pace.tov) (read since next course))
  head_goes more ticks since at course =
      let next = tick_moment pace (ticks + 1) in
      run_append room blocks pace.tov (steps_from stalls pace since next)
      (Tick ((ticks + 1) * pace.tov) ∷ beats stalls pace more (ticks + 1) next at) course
      ∙ ap (λ (c : Course). go (beats stalls pace more (ticks + 1) next at)
      (over_time blocks pace.tov ((ticks + 1) * pace.tov) c))
      (reads_go room blocks pace.tov pace.takes_all _ course)

  -- ticks of an empty block, from a tick on
  rests : (more ticks last since at : ℕ) (course : Course) → last ≡ ticks + more → course.block ≡ Empty
      → course.clock ≡ ticks * pace.tov → course.deadline ≡ ticks * pace.tov + pace.tov
      → since ≤ tick_moment pace (ticks + 1) → last ≤ ticks_by pace at
      → go (beats stalls pace more ticks since at) course ≡ read since at (at_tick last course)
  rests zero ticks last since at course e empty clock deadline soon by =
      let same : ticks ≡ last = omega (arith, e) in
      reads_go room blocks pace.tov pace.takes_all _ course
      ∙ ap (read since at)
      (ap (λ (n : ℕ). record course { clock = n }) clock
      ∙ ap (λ (n : ℕ). record course { clock = ticks * pace.tov; deadline = n }) deadline
      ∙ ap (λ (n : ℕ). at_tick n course) same)
  rests (suc more) ticks last since at course e empty clock deadline soon by =
      let next = tick_moment pace (ticks + 1) in
      let due : course.deadline ≤ (ticks + 1) * pace.tov = grind (arith, common_steps) in
      let comes = (tick_comes pace at (ticks + 1) sound.tov).0 (omega (arith, e, by)) in
      head_goes more ticks since at course
      ∙ ap (go (beats stalls pace more (ticks + 1) next at))
      (due_empty blocks pace.tov ((ticks + 1) * pace.tov) (read since next course) empty due)
      ∙ rests more (ticks + 1) last next at (read since next (at_tick (ticks + 1) course)) (omega (arith, e)) empty
      refl refl (moments_rise pace ticks) by
      ∙ join since next at (at_tick last course) soon comes

  empty_goes : (ticks last since at : ℕ) (course : Course) → ticks < last → course.block ≡ Empty
      → course.deadline ≤ (ticks + 1) * pace.tov → since ≤ tick_moment pace (ticks + 1) → last ≤ ticks_by pace at
      → go (beats stalls pace (last - ticks) ticks since at) course
      ≡ read since at (over_time blocks pace.tov (last * pace.tov) course)
  empty_goes ticks last since at course more empty due soon by =
      let next = tick_moment pace (ticks + 1) in
      let left : last - ticks ≡ suc (last - (ticks + 1)) = omega (arith, more) in
      let comes = (tick_comes pace at (ticks + 1) sound.tov).0 (omega (arith, more, by)) in
      let most = mul-le-mul_right {m = ticks + 1} {n = last} pace.tov (omega (arith, more)) in
      ap (λ (n : ℕ). go (beats stalls pace n ticks since at) course) left
      ∙ head_goes (last - (ticks + 1)) ticks since at course
      ∙ ap (go (beats stalls pace (last - (ticks + 1)) (ticks + 1) next at))
      (due_empty blocks pace.tov ((ticks + 1) * pace.tov) (read since next course) empty due)
      ∙ rests (last - (ticks + 1)) (ticks + 1) last next at (read since next (at_tick (ticks + 1) course))
      (omega (arith, more)) empty refl refl (moments_rise pace ticks) by
      ∙ join since next at (at_tick last course) soon comes
      ∙ ap (read since at) (sym (due_empty blocks pace.tov (last * pace.tov) course empty (omega (arith, due, most))))

  still_block : (block : CourseBlock) (due : Bool) → (is_empty block && due) ≡ true → (block ≡ Empty) × (due ≡ true)
  still_block Empty due e = (refl, e)
  still_block Frozen due e = absurd (grind (arith, common_steps, e))
  still_block Filled due e = absurd (grind (arith, common_steps, e))

  due_now : (deadline ms : ℕ) → nat_le deadline ms ≡ true → deadline ≤ ms
  due_now deadline ms e = grind (arith, common_steps)

  last_by : (ticks last since at : ℕ) (course later total : Course) (more : Bool) → nat_lt ticks last ≡ more
      → (more ≡ true → is_still ((ticks + 1) * pace.tov) course ≡ true)
      → since ≤ tick_moment pace (ticks + 1) → last ≤ ticks_by pace at
      → later ≡ read since at (cond more (over_time blocks pace.tov (last * pace.tov) course) course)
      → go (beats stalls pace (last - ticks) ticks since at) course ≡ total → later ≡ total
  last_by ticks last since at course later total true e still soon by is goes =
      let h = still_block course.block (nat_le course.deadline ((ticks + 1) * pace.tov)) (still refl) in
      is
      ∙ sym (empty_goes ticks last since at course (grind (arith, common_steps)) h.0
      (due_now course.deadline ((ticks + 1) * pace.tov) h.1) soon by)
      ∙ goes
  last_by ticks last since at course later total false e still soon by is goes =
      rest_goes room blocks stalls pace ticks last since at course later total (grind (arith, common_steps)) is goes

  -- the last tick that matters, and the steps after it
  pub last_goes : (ticks last since at : ℕ) (course later total : Course)
      → (ticks < last → is_still ((ticks + 1) * pace.tov) course ≡ true)
      → since ≤ tick_moment pace (ticks + 1) → last ≤ ticks_by pace at
      → later ≡ read since at (course_last blocks pace.tov ticks last course)
      → go (beats stalls pace (last - ticks) ticks since at) course ≡ total → later ≡ total
  last_goes ticks last since at course later total still soon by is goes =
      last_by ticks last since at course later total (nat_lt ticks last) refl
      (λ e. still (now ticks last e)) soon by is goes
    where
      now : (ticks last : ℕ) → nat_lt ticks last ≡ true → ticks < last
      now ticks last e = grind (arith, common_steps)

-- ---- numbers stay small

small_by : (bound most blocks tov ticks last : ℕ) (course later : Course) (more : Bool) → nat_lt ticks last ≡ more
    → ticks ≤ most → last ≤ most → IsSmall (bound + ticks) course
    → later ≡ cond more (over_time blocks tov (last * tov) course) course → later.used < 2 ^ 32
    → IsSmall (bound + most) later
small_by bound most blocks tov ticks last course later true e few end h is used =
    subst (IsSmall (bound + most)) (sym is)
    (smaller (bound + ticks + 1) (bound + most) _ (grind (arith, common_steps))
    (stays_small (bound + ticks) 0 blocks tov (Tick (last * tov)) course h
    (subst (λ (course : Course). course.used < 2 ^ 32) is used)))
small_by bound most blocks tov ticks last course later false e few end h is used =
    subst (IsSmall (bound + most)) (sym is) (smaller (bound + ticks) (bound + most) course (omega (arith, few)) h)

pub last_small : (bound most blocks tov ticks last : ℕ) (course later : Course) → ticks ≤ most → last ≤ most
    → IsSmall (bound + ticks) course → later ≡ course_last blocks tov ticks last course → later.used < 2 ^ 32
    → IsSmall (bound + most) later
last_small bound most blocks tov ticks last course later few end h is used =
    small_by bound most blocks tov ticks last course later (nat_lt ticks last) refl few end h is used
