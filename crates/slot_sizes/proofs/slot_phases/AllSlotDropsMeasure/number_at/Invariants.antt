-- What the members so far drop, with what those that are left drop, is what all drop.
use Rattle.std.proofs.Common.{◌≡◌, ◌+◌, ◌≤◌, drop, length}
use Rattle.std.specs.List.{sum_by}
use Rattle.slot_sizes.specs.SlotSchedules.{slot_drops_of_all}
use Rattle.slot_sizes.proofs.slot_phases.AllSlotDropsMeasure.number_at.Given as goal

abbrev pub invariant-loop-arrivals : goal.invariant-loop-arrivals
invariant-loop-arrivals l = record {
  is : l.total + slot_drops_of_all l.self.slots l.self.stalls.now l.pace (drop l.arrivals-index l.self.members.now) 0
      ≡ slot_drops_of_all l.self.slots l.self.stalls.now l.pace l.self.members.now 0;
  few : l.total + sum_by (λ arrivals. length arrivals) (drop l.arrivals-index l.self.members.now)
      ≤ sum_by (λ arrivals. length arrivals) l.self.members.now;
}
