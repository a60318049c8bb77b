-- The course of a ring of slots, frame by frame.
use Rattle.std.proofs.Common.{◌≡◌, ℕ, zero, suc, ◌+◌, ◌-◌, ◌<◌, ◌≤◌, Bool, true, false, cond, List, [], ◌∷◌, ◌++◌, length}
use Rattle.std.proofs.Common.{drop, get_or, drop-cons, add-one, max, replicate, min, refl, sym, ap, subst, ◌∙◌, arith}
use Rattle.std.specs.Prelude.{◌==◌, nat_lt}
use Rattle.std.proofs.lemmas.Grind.{common_steps}
use Rattle.std.proofs.lemmas.List.{drop_all}
use Rattle.ring_sizes.specs.Schedules.{awake, step_event, steps_before, steps_from}
use Rattle.ring_sizes.specs.declared.events.Event.{Event}
use Rattle.ring_sizes.specs.declared.events.Event.TheVariants.{Packet, Read, ReadAll}
use Rattle.ring_sizes.specs.declared.paces.Arrival.{Arrival}
use Rattle.ring_sizes.specs.declared.paces.Timing.{Timing}
use Rattle.ring_sizes.specs.declared.paces.StallTime.{StallTime}
use Rattle.ring_sizes.proofs.ReaderSteps.{all_again, more_read, none_read, not_none}
use Rattle.slot_sizes.specs.SlotCourses.{all_slots_went_on, slot_course_read, slot_course_stats, slot_fed, slot_went_on}
use Rattle.slot_sizes.specs.SlotSchedules.{slot_schedule_from}
use Rattle.slot_sizes.specs.declared.slot_courses.SlotCourse.{SlotCourse}

fed_by : (course : SlotCourse) (full : Bool)
    → let later = cond full (record course { dropped = course.dropped + 1 }) (record course { done = course.done + 1 }) in
    (later.done + later.dropped ≡ course.done + course.dropped + 1) × ((course.done ≤ later.done)
    × (later.released ≡ course.released))
fed_by course true = (omega arith, (omega arith, refl))
fed_by course false = (omega arith, (omega arith, refl))

pub fed_few : (slots : ℕ) (course later : SlotCourse) → later ≡ slot_fed slots course
    → (later.done + later.dropped ≡ course.done + course.dropped + 1) × ((course.done ≤ later.done)
    × (later.released ≡ course.released))
fed_few slots course later e =
    subst (λ (later : SlotCourse). (later.done + later.dropped ≡ course.done + course.dropped + 1) × ((course.done ≤ later.done)
    × (later.released ≡ course.released))) (sym e) (fed_by course (nat_lt course.released (course.done + 1 - slots)))

module _ (slots : ℕ) where
  pub append : (events more : List Event) (course : SlotCourse)
      → all_slots_went_on slots (events ++ more) course ≡ all_slots_went_on slots more (all_slots_went_on slots events course)
  append [] more course = refl
  append (event ∷ events) more course = append events more (slot_went_on slots event course)

  reads_all : (steps : ℕ) (course : SlotCourse)
      → all_slots_went_on slots (replicate steps ReadAll) course ≡ slot_course_read true steps course
  reads_all zero course = refl
  reads_all (suc more) course =
      reads_all more (record course { released = course.done })
      ∙ ap (λ (n : ℕ). record course { released = n })
      (all_again (more == 0) course.done
      ∙ ap (λ (none : Bool). cond none course.released course.done)
      (sym (not_none (suc more) (suc more == 0) refl (omega arith))))

  reads_one_by : (more : ℕ) (course : SlotCourse) (some : Bool) → nat_lt course.released course.done ≡ some
      → ((later : SlotCourse) → all_slots_went_on slots (replicate more Read) later ≡ slot_course_read false more later)
      → all_slots_went_on slots (replicate more Read) (cond some (record course { released = course.released + 1 }) course)
      ≡ slot_course_read false (suc more) course
  reads_one_by more course true e rest =
      rest (record course { released = course.released + 1 })
      ∙ ap (λ (n : ℕ). record course { released = n })
      (more_read more course.released course.done (grind (arith, common_steps)))
  reads_one_by more course false e rest =
      rest course
      ∙ ap (λ (n : ℕ). record course { released = n })
      (none_read more course.released course.done (grind (arith, common_steps)))

  reads_one : (steps : ℕ) (course : SlotCourse)
      → all_slots_went_on slots (replicate steps Read) course ≡ slot_course_read false steps course
  reads_one zero course =
      let none : course.released ≡ course.released + min 0 (course.done - course.released) = omega arith in
      ap (λ (n : ℕ). record course { released = n }) none
  reads_one (suc more) course = reads_one_by more course (nat_lt course.released course.done) refl (reads_one more)

  pub reads : (takes_all : Bool) (steps : ℕ) (course : SlotCourse)
      → all_slots_went_on slots (replicate steps (step_event takes_all)) course ≡ slot_course_read takes_all steps course
  reads true steps course = reads_all steps course
  reads false steps course = reads_one steps course

module _ (slots : ℕ) (stalls : List StallTime) (pace : Timing) where
  abbrev awake_to : ℕ → ℕ → ℕ
  awake_to since at = awake stalls pace (steps_before pace since) (steps_before pace at - steps_before pace since)

  pub arrival_goes : (end since at : ℕ) (arrivals : List Arrival) (index : ℕ) (default : Arrival)
      (course before later total : SlotCourse)
      → index < length arrivals → at ≡ max since (get_or arrivals index default).at
      → before ≡ slot_course_read pace.takes_all (awake_to since at) course → later ≡ slot_fed slots before
      → all_slots_went_on slots (slot_schedule_from stalls pace end since (drop index arrivals)) course ≡ total
      → all_slots_went_on slots (slot_schedule_from stalls pace end at (drop (index + 1) arrivals)) later ≡ total
  arrival_goes end since at arrivals index default course before later total inside is was goes whole =
      let arrival = get_or arrivals index default in
      let rest = drop (index + 1) arrivals in
      let head : drop index arrivals ≡ arrival ∷ rest = rw add-one (drop-cons arrivals index default inside) in
      ap (all_slots_went_on slots (slot_schedule_from stalls pace end at rest)) goes
      ∙ ap (λ (p : SlotCourse). all_slots_went_on slots (slot_schedule_from stalls pace end at rest) (slot_fed slots p))
      (was ∙ sym (reads slots pace.takes_all (awake_to since at) course))
      ∙ sym (append slots (steps_from stalls pace since at)
      (Packet arrival.need ∷ slot_schedule_from stalls pace end at rest) course)
      ∙ ap (λ (n : ℕ). all_slots_went_on slots
      (steps_from stalls pace since n ++ Packet arrival.need ∷ slot_schedule_from stalls pace end n rest) course) is
      ∙ ap (λ (left : List Arrival). all_slots_went_on slots (slot_schedule_from stalls pace end since left) course) (sym head)
      ∙ whole

  pub end_goes : (end since : ℕ) (arrivals : List Arrival) (index : ℕ) (course total : SlotCourse) → length arrivals ≤ index
      → all_slots_went_on slots (slot_schedule_from stalls pace end since (drop index arrivals)) course ≡ total
      → slot_course_stats course ≡ slot_course_stats total
  end_goes end since arrivals index course total behind whole =
      ap slot_course_stats
      (sym (reads slots pace.takes_all (awake_to since (end + 1)) course)
      ∙ ap (λ (left : List Arrival). all_slots_went_on slots (slot_schedule_from stalls pace end since left) course)
      (sym (drop_all index arrivals behind))
      ∙ whole)
