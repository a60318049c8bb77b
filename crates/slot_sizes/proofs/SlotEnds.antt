-- The end of a run has no meaning for a ring of slots, and no more packets are dropped than come.
use Rattle.std.proofs.Common.{◌≡◌, ℕ, ◌+◌, ◌-◌, ◌≤◌, max, Bool, true, false, cond, List, [], ◌∷◌, ◌++◌, length}
use Rattle.std.proofs.Common.{sym, ap, ◌∙◌, arith}
use Rattle.std.specs.Prelude.{nat_lt}
use Rattle.ring_sizes.specs.Schedules.{awake, steps_before, steps_from}
use Rattle.ring_sizes.specs.declared.events.Event.TheVariants.{Packet}
use Rattle.ring_sizes.specs.declared.paces.Arrival.{Arrival}
use Rattle.ring_sizes.specs.declared.paces.StallTime.{StallTime}
use Rattle.ring_sizes.specs.declared.paces.Timing.{Timing}
use Rattle.slot_sizes.specs.SlotCourses.{all_slots_went_on, first_slot_course, slot_fed}
use Rattle.slot_sizes.specs.SlotPasses.{all_slots_passed, first_slot_pass, slot_passed}
use Rattle.slot_sizes.specs.SlotSchedules.{least_slots_of, slot_drops_of, slot_schedule_from}
use Rattle.slot_sizes.specs.declared.slot_courses.SlotCourse.{SlotCourse}
use Rattle.slot_sizes.specs.declared.slot_passes.SlotPass.{SlotPass}
use Rattle.slot_sizes.proofs.SlotCourseSteps.{append, reads}
use Rattle.slot_sizes.proofs.SlotSteps as passes

fed_drops : (course : SlotCourse) (full : Bool)
    → (cond full (record course { dropped = course.dropped + 1 }) (record course { done = course.done + 1 })).dropped
    ≤ course.dropped + 1
fed_drops course true = omega arith
fed_drops course false = omega arith

module _ (stalls : List StallTime) (pace : Timing) where
  abbrev awake_to : ℕ → ℕ → ℕ
  awake_to since at = awake stalls pace (steps_before pace since) (steps_before pace at - steps_before pace since)

  -- ---- a course

  module _ (slots : ℕ) where
    read_drops : (since at : ℕ) (course : SlotCourse)
        → (all_slots_went_on slots (steps_from stalls pace since at) course).dropped ≡ course.dropped
    read_drops since at course =
        ap (λ (c : SlotCourse). c.dropped) (reads slots pace.takes_all (awake_to since at) course)

    drops_same : (end other since : ℕ) (arrivals : List Arrival) (course : SlotCourse)
        → (all_slots_went_on slots (slot_schedule_from stalls pace end since arrivals) course).dropped
        ≡ (all_slots_went_on slots (slot_schedule_from stalls pace other since arrivals) course).dropped
    drops_same end other since [] course = read_drops since (end + 1) course ∙ sym (read_drops since (other + 1) course)
    drops_same end other since (arrival ∷ arrivals) course =
        let at = max since arrival.at in
        let steps = steps_from stalls pace since at in
        ap (λ (c : SlotCourse). c.dropped)
        (append slots steps (Packet arrival.need ∷ slot_schedule_from stalls pace end at arrivals) course)
        ∙ drops_same end other at arrivals (slot_fed slots (all_slots_went_on slots steps course))
        ∙ sym (ap (λ (c : SlotCourse). c.dropped)
        (append slots steps (Packet arrival.need ∷ slot_schedule_from stalls pace other at arrivals) course))

    few_drops : (end since : ℕ) (arrivals : List Arrival) (course : SlotCourse)
        → (all_slots_went_on slots (slot_schedule_from stalls pace end since arrivals) course).dropped
        ≤ course.dropped + length arrivals
    few_drops end since [] course =
        let same : (all_slots_went_on slots (slot_schedule_from stalls pace end since []) course).dropped ≡ course.dropped =
        read_drops since (end + 1) course in
        omega (arith, same)
    few_drops end since (arrival ∷ arrivals) course =
        let at = max since arrival.at in
        let steps = steps_from stalls pace since at in
        let read = all_slots_went_on slots steps course in
        let same = read_drops since at course in
        let one : (slot_fed slots read).dropped ≤ read.dropped + 1 =
        fed_drops read (nat_lt read.released (read.done + 1 - slots)) in
        let rest = few_drops end at arrivals (slot_fed slots read) in
        let both = ap (λ (c : SlotCourse). c.dropped)
        (append slots steps (Packet arrival.need ∷ slot_schedule_from stalls pace end at arrivals) course) in
        omega (arith, same, one, rest, both)

    pub drops_at_end : (arrivals : List Arrival) (end other : ℕ)
        → slot_drops_of slots stalls pace arrivals end ≡ slot_drops_of slots stalls pace arrivals other
    drops_at_end arrivals end other = drops_same end other 0 arrivals first_slot_course

    pub drops_few : (arrivals : List Arrival) (end : ℕ) → slot_drops_of slots stalls pace arrivals end ≤ length arrivals
    drops_few arrivals end = let few = few_drops end 0 arrivals first_slot_course in omega (arith, few)

  -- ---- a pass

  read_least : (since at : ℕ) (pass : SlotPass)
      → (all_slots_passed (steps_from stalls pace since at) pass).least ≡ pass.least
  read_least since at pass = ap (λ (p : SlotPass). p.least) (passes.reads pace.takes_all (awake_to since at) pass)

  least_same : (end other since : ℕ) (arrivals : List Arrival) (pass : SlotPass)
      → (all_slots_passed (slot_schedule_from stalls pace end since arrivals) pass).least
      ≡ (all_slots_passed (slot_schedule_from stalls pace other since arrivals) pass).least
  least_same end other since [] pass = read_least since (end + 1) pass ∙ sym (read_least since (other + 1) pass)
  least_same end other since (arrival ∷ arrivals) pass =
      let at = max since arrival.at in
      let steps = steps_from stalls pace since at in
      ap (λ (p : SlotPass). p.least)
      (passes.append steps (Packet arrival.need ∷ slot_schedule_from stalls pace end at arrivals) pass)
      ∙ least_same end other at arrivals (slot_passed (Packet arrival.need) (all_slots_passed steps pass))
      ∙ sym (ap (λ (p : SlotPass). p.least)
      (passes.append steps (Packet arrival.need ∷ slot_schedule_from stalls pace other at arrivals) pass))

  pub least_at_end : (arrivals : List Arrival) (end other : ℕ)
      → least_slots_of stalls pace arrivals end ≡ least_slots_of stalls pace arrivals other
  least_at_end arrivals end other = least_same end other 0 arrivals first_slot_pass
