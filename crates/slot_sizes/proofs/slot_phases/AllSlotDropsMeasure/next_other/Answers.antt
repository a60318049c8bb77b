use Rattle.std.proofs.Common.{ap, arith}
use Rattle.ring_sizes.specs.declared.paces.Timing.{Timing}
use Rattle.slot_sizes.specs.SlotSchedules.{slot_drops_of_all}
use Rattle.slot_sizes.proofs.SlotTotals.{same_pace}
use Rattle.slot_sizes.proofs.slot_phases.AllSlotDropsMeasure.next_other.Goals as goal

pub returns-clause-same : goal.returns-clause-same
returns-clause-same c = λ phase late early.
    let self = c.args.self.now in
    ap (λ (pace : Timing). slot_drops_of_all self.slots self.stalls.now pace self.members.now 0)
    (same_pace c.args.pace.now phase (omega (arith, late, early)))
