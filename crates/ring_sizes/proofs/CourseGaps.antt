-- What comes between two frames, for a ring of a given size.
use Rattle.std.proofs.Common.{◌≡◌, ℕ, zero, suc, ◌+◌, ◌-◌, ◌*◌, ◌<◌, ◌≤◌, Bool, true, false, cond, List, [], ◌∷◌, ◌++◌}
use Rattle.std.proofs.Common.{length, drop, get_or, drop-cons, add-one, max, replicate, min, refl, sym, ap, ◌∙◌, arith}
use Rattle.std.specs.Prelude.{◌==◌, nat_lt}
use Rattle.std.proofs.lemmas.Grind.{common_steps}
use Rattle.std.proofs.lemmas.List.{drop_all}
use Rattle.ring_sizes.specs.Courses.{IsSmall, all_went_on, over_time, went_on}
use Rattle.ring_sizes.specs.Rests.{course_read}
use Rattle.ring_sizes.specs.Schedules.{awake, beats, beats_between, beats_to, schedule_from, step_event, steps_before}
use Rattle.ring_sizes.specs.Schedules.{steps_from, tick_moment}
use Rattle.ring_sizes.specs.declared.courses.Course.{Course}
use Rattle.ring_sizes.specs.declared.events.Event.{Event}
use Rattle.ring_sizes.specs.declared.events.Event.TheVariants.{Packet, Tick, Read, ReadAll}
use Rattle.ring_sizes.specs.declared.paces.Arrival.{Arrival}
use Rattle.ring_sizes.specs.declared.paces.Timing.{Timing}
use Rattle.ring_sizes.specs.declared.paces.StallTime.{StallTime}
use Rattle.ring_sizes.proofs.ReaderSteps.{all_again, more_read, none_read, not_none}
use Rattle.ring_sizes.proofs.Still.{released_few}

module _ (room blocks tov : ℕ) where
  abbrev run : List Event → Course → Course
  run events course = all_went_on room blocks tov events course

  pub run_append : (events more : List Event) (course : Course) → run (events ++ more) course ≡ run more (run events course)
  run_append [] more course = refl
  run_append (event ∷ events) more course = run_append events more (went_on room blocks tov event course)

  reads_all : (steps : ℕ) (course : Course) → run (replicate steps ReadAll) course ≡ course_read true steps course
  reads_all zero course = refl
  reads_all (suc more) course =
      reads_all more (record course { released = course.done })
      ∙ ap (λ (n : ℕ). record course { released = n })
      (all_again (more == 0) course.done
      ∙ ap (λ (none : Bool). cond none course.released course.done)
      (sym (not_none (suc more) (suc more == 0) refl (omega arith))))

  reads_one_by : (more : ℕ) (course : Course) (some : Bool) → nat_lt course.released course.done ≡ some
      → ((later : Course) → run (replicate more Read) later ≡ course_read false more later)
      → run (replicate more Read) (cond some (record course { released = course.released + 1 }) course)
      ≡ course_read false (suc more) course
  reads_one_by more course true e rest =
      rest (record course { released = course.released + 1 })
      ∙ ap (λ (n : ℕ). record course { released = n })
      (more_read more course.released course.done (grind (arith, common_steps)))
  reads_one_by more course false e rest =
      rest course
      ∙ ap (λ (n : ℕ). record course { released = n })
      (none_read more course.released course.done (grind (arith, common_steps)))

  reads_one : (steps : ℕ) (course : Course) → run (replicate steps Read) course ≡ course_read false steps course
  reads_one zero course =
      let none : course.released ≡ course.released + min 0 (course.done - course.released) = omega arith in
      ap (λ (n : ℕ). record course { released = n }) none
  reads_one (suc more) course = reads_one_by more course (nat_lt course.released course.done) refl (reads_one more)

  pub reads_go : (takes_all : Bool) (steps : ℕ) (course : Course)
      → run (replicate steps (step_event takes_all)) course ≡ course_read takes_all steps course
  reads_go true steps course = reads_all steps course
  reads_go false steps course = reads_one steps course

module _ (room blocks : ℕ) (stalls : List StallTime) (pace : Timing) where
  abbrev go : List Event → Course → Course
  go events course = all_went_on room blocks pace.tov events course

  abbrev read : ℕ → ℕ → Course → Course
  read since at course =
      course_read pace.takes_all
      (awake stalls pace (steps_before pace since) (steps_before pace at - steps_before pace since)) course

  -- the next tick
  pub tick_goes : (ticks last since at : ℕ) (course read_course later end : Course) → ticks < last
      → read_course ≡ read since (tick_moment pace (ticks + 1)) course
      → later ≡ over_time blocks pace.tov ((ticks + 1) * pace.tov) read_course
      → go (beats stalls pace (last - ticks) ticks since at) course ≡ end
      → go (beats stalls pace (last - (ticks + 1)) (ticks + 1) (tick_moment pace (ticks + 1)) at) later ≡ end
  tick_goes ticks last since at course read_course later end more was is goes =
      let next = tick_moment pace (ticks + 1) in
      let left : last - ticks ≡ suc (last - (ticks + 1)) = omega (arith, more) in
      let rest = beats stalls pace (last - (ticks + 1)) (ticks + 1) next at in
      ap (go rest)
      (is ∙ ap (over_time blocks pace.tov ((ticks + 1) * pace.tov))
      (was ∙ sym (reads_go room blocks pace.tov pace.takes_all _ course)))
      ∙ sym (run_append room blocks pace.tov (steps_from stalls pace since next) (Tick ((ticks + 1) * pace.tov) ∷ rest) course)
      ∙ ap (λ (n : ℕ). go (beats stalls pace n ticks since at) course) (sym left)
      ∙ goes

  pub tick_goes_at : (ticks last since next at : ℕ) (course read_course later end : Course) → ticks < last
      → next ≡ tick_moment pace (ticks + 1) → read_course ≡ read since next course
      → later ≡ over_time blocks pace.tov ((ticks + 1) * pace.tov) read_course
      → go (beats stalls pace (last - ticks) ticks since at) course ≡ end
      → go (beats stalls pace (last - (ticks + 1)) (ticks + 1) next at) later ≡ end
  tick_goes_at ticks last since next at course read_course later end more e was is goes =
      ap (λ (n : ℕ). go (beats stalls pace (last - (ticks + 1)) (ticks + 1) n at) later) e
      ∙ tick_goes ticks last since at course read_course later end more (was ∙ ap (λ (n : ℕ). read since n course) e) is goes

  -- no tick is left
  pub rest_goes : (ticks last since at : ℕ) (course later end : Course) → last ≤ ticks → later ≡ read since at course
      → go (beats stalls pace (last - ticks) ticks since at) course ≡ end → later ≡ end
  rest_goes ticks last since at course later end none is goes =
      let left : 0 ≡ last - ticks = omega (arith, none) in
      is
      ∙ sym (reads_go room blocks pace.tov pace.takes_all _ course)
      ∙ ap (λ (n : ℕ). go (beats stalls pace n ticks since at) course) left
      ∙ goes

  -- the next frame
  pub frame_goes : (end since at : ℕ) (arrivals : List Arrival) (index : ℕ) (default : Arrival)
      (course rested later total : Course)
      → index < length arrivals → at ≡ max since (get_or arrivals index default).at
      → rested ≡ go (beats_between stalls pace since at) course
      → later ≡ went_on room blocks pace.tov (Packet (get_or arrivals index default).need) rested
      → go (schedule_from stalls pace end since (drop index arrivals)) course ≡ total
      → go (schedule_from stalls pace end at (drop (index + 1) arrivals)) later ≡ total
  frame_goes end since at arrivals index default course rested later total inside is was next whole =
      let arrival = get_or arrivals index default in
      let rest = drop (index + 1) arrivals in
      let head : drop index arrivals ≡ arrival ∷ rest = rw add-one (drop-cons arrivals index default inside) in
      ap (go (schedule_from stalls pace end at rest)) (next ∙ ap (went_on room blocks pace.tov (Packet arrival.need)) was)
      ∙ sym (run_append room blocks pace.tov (beats_between stalls pace since at)
      (Packet arrival.need ∷ schedule_from stalls pace end at rest) course)
      ∙ ap (λ (n : ℕ). go (beats_between stalls pace since n ++ Packet arrival.need ∷ schedule_from stalls pace end n rest)
      course) is
      ∙ ap (λ (left : List Arrival). go (schedule_from stalls pace end since left) course) (sym head)
      ∙ whole

  -- what comes after the last frame
  pub last_goes : (end at : ℕ) (arrivals : List Arrival) (index : ℕ) (course later total : Course) → length arrivals ≤ index
      → later ≡ go (beats_to stalls pace at end) course
      → go (schedule_from stalls pace end at (drop index arrivals)) course ≡ total → later ≡ total
  last_goes end at arrivals index course later total behind was goes =
      was
      ∙ ap (λ (left : List Arrival). go (schedule_from stalls pace end at left) course) (sym (drop_all index arrivals behind))
      ∙ goes

pub read_small : (bound : ℕ) (takes_all : Bool) (steps : ℕ) (course : Course) → IsSmall bound course
    → IsSmall bound (course_read takes_all steps course)
read_small bound takes_all steps course h = record {
  done = h.done;
  behind = released_few takes_all (steps == 0) steps course.released course.done h.behind;
  packets = h.packets;
  freezes = h.freezes;
  used = h.used;
}

pub smaller : (bound other : ℕ) (course : Course) → bound ≤ other → IsSmall bound course → IsSmall other course
smaller bound other course more h = record {
  done = omega (arith, h.done, more);
  behind = h.behind;
  packets = omega (arith, h.packets, more);
  freezes = omega (arith, h.freezes, more);
  used = h.used;
}
