use Rattle.std.proofs.Common.{◌≡◌, ℕ, ◌<◌, ◌≤◌, ◌^◌, drop}
use Rattle.ring_sizes.specs.Schedules.{steps_before}
use Rattle.slot_sizes.specs.SlotPasses.{all_slots_passed, first_slot_pass}
use Rattle.slot_sizes.specs.SlotSchedules.{slot_schedule_from, slot_schedule_to}
use Rattle.slot_sizes.proofs.slot_passes.least_slots_at.Given as goal

abbrev pub invariant-loop-arrival : goal.invariant-loop-arrival
invariant-loop-arrival l = record {
  early : l.at < 2 ^ 53;
  steps : l.steps ≡ steps_before l.pace l.at;
  few : l.pass.done ≤ l.arrival-index;
  behind : l.pass.released ≤ l.pass.done;
  some : 1 ≤ l.pass.least;
  goes : (end : ℕ)
      → all_slots_passed (slot_schedule_from l.stalls l.pace end l.at (drop l.arrival-index l.arrivals)) l.pass
      ≡ all_slots_passed (slot_schedule_to l.stalls l.pace l.arrivals end) first_slot_pass;
}
