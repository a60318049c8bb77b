use Rattle.std.proofs.Common.{◌≡◌, ℕ, ◌+◌, ◌<◌, ◌≤◌, ◌^◌, drop}
use Rattle.ring_sizes.specs.Schedules.{steps_before}
use Rattle.slot_sizes.specs.SlotCourses.{all_slots_went_on, first_slot_course}
use Rattle.slot_sizes.specs.SlotSchedules.{slot_schedule_from, slot_schedule_to}
use Rattle.slot_sizes.proofs.slot_courses.slot_losses_at.Given as goal

abbrev pub invariant-loop-arrival : goal.invariant-loop-arrival
invariant-loop-arrival l = record {
  early : l.at < 2 ^ 53;
  steps : l.steps ≡ steps_before l.pace l.at;
  few : l.course.done + l.course.dropped ≤ l.arrival-index;
  behind : l.course.released ≤ l.course.done;
  goes : (end : ℕ)
      → all_slots_went_on l.slots (slot_schedule_from l.stalls l.pace end l.at (drop l.arrival-index l.arrivals)) l.course
      ≡ all_slots_went_on l.slots (slot_schedule_to l.stalls l.pace l.arrivals end) first_slot_course;
}
