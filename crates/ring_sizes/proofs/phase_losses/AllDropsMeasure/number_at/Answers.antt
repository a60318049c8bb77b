use Rattle.std.proofs.Common.{List, length, ap, ◌∙◌, arith}
use Rattle.ring_model.specs.declared.notes.Stats.{Stats}
use Rattle.ring_sizes.specs.Phases.{drops_of}
use Rattle.ring_sizes.specs.declared.paces.Arrival.{Arrival}
use Rattle.ring_sizes.proofs.Totals.{drops_few, summed}
use Rattle.ring_sizes.proofs.phase_losses.AllDropsMeasure.number_at.Goals as goal

pub overflow_add-total : goal.overflow_add-total
overflow_add-total c =
    let self = c.args.self.now in
    let arrivals = c.as_slice-arrivals.result.now in
    let drops = ap (λ (stats : Stats). stats.drops) c.losses_at-one.ensures.stats in
    let most = drops_few self.room self.blocks self.stalls.now c.args.pace.now arrivals self.end in
    let given = summed (λ (arrivals : List Arrival). length arrivals) self.members.now c.loop-arrivals.arrivals-index _ arrivals
    (c.as_slice-arrivals.ensures ∙ c.arrivals-item.is) c.loop-arrivals-test.true in
    omega (arith, drops, most, given, c.loop-arrivals.invariant.few, c.requires.ready.few)

pub loop-arrivals-preserved : goal.loop-arrivals-preserved
loop-arrivals-preserved c =
    let self = c.args.self.now in
    let arrivals = c.as_slice-arrivals.result.now in
    let drops = ap (λ (stats : Stats). stats.drops) c.losses_at-one.ensures.stats in
    let most = drops_few self.room self.blocks self.stalls.now c.args.pace.now arrivals self.end in
    let is = c.as_slice-arrivals.ensures ∙ c.arrivals-item.is in
    let given = summed (λ (arrivals : List Arrival). length arrivals) self.members.now c.loop-arrivals.arrivals-index _ arrivals
    is c.loop-arrivals-test.true in
    let dropped = summed (λ (arrivals : List Arrival). drops_of self.room self.blocks self.stalls.now c.args.pace.now arrivals
    self.end) self.members.now c.loop-arrivals.arrivals-index _ arrivals is c.loop-arrivals-test.true in
    record {
      is = omega (arith, drops, dropped, c.loop-arrivals.invariant.is);
      few = omega (arith, drops, most, given, c.loop-arrivals.invariant.few);
    }
