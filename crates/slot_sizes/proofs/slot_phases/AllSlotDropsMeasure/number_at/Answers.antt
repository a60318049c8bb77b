use Rattle.std.proofs.Common.{List, length, ap, ◌∙◌, arith}
use Rattle.ring_model.specs.declared.notes.Stats.{Stats}
use Rattle.ring_sizes.specs.declared.paces.Arrival.{Arrival}
use Rattle.ring_sizes.proofs.Totals.{summed}
use Rattle.slot_sizes.specs.SlotSchedules.{slot_drops_of}
use Rattle.slot_sizes.proofs.SlotEnds.{drops_few}
use Rattle.slot_sizes.proofs.slot_phases.AllSlotDropsMeasure.number_at.Goals as goal

pub overflow_add-total : goal.overflow_add-total
overflow_add-total c =
    let self = c.args.self.now in
    let arrivals = c.as_slice-arrivals.result.now in
    let drops = ap (λ (stats : Stats). stats.drops) (c.slot_losses_at-one.ensures.stats 0) in
    let most = drops_few self.stalls.now c.args.pace.now self.slots arrivals 0 in
    let given = summed (λ (arrivals : List Arrival). length arrivals) self.members.now c.loop-arrivals.arrivals-index _ arrivals
    (c.as_slice-arrivals.ensures ∙ c.arrivals-item.is) c.loop-arrivals-test.true in
    omega (arith, drops, most, given, c.loop-arrivals.invariant.few, c.requires.ready.few)

pub loop-arrivals-preserved : goal.loop-arrivals-preserved
loop-arrivals-preserved c =
    let self = c.args.self.now in
    let arrivals = c.as_slice-arrivals.result.now in
    let drops = ap (λ (stats : Stats). stats.drops) (c.slot_losses_at-one.ensures.stats 0) in
    let most = drops_few self.stalls.now c.args.pace.now self.slots arrivals 0 in
    let is = c.as_slice-arrivals.ensures ∙ c.arrivals-item.is in
    let given = summed (λ (arrivals : List Arrival). length arrivals) self.members.now c.loop-arrivals.arrivals-index _ arrivals
    is c.loop-arrivals-test.true in
    let dropped = summed (λ (arrivals : List Arrival). slot_drops_of self.slots self.stalls.now c.args.pace.now arrivals 0)
    self.members.now c.loop-arrivals.arrivals-index _ arrivals is c.loop-arrivals-test.true in
    record {
      is = omega (arith, drops, dropped, c.loop-arrivals.invariant.is);
      few = omega (arith, drops, most, given, c.loop-arrivals.invariant.few);
    }
