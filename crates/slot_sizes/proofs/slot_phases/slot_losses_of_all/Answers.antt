use Rattle.std.proofs.Common.{ℕ, ap, arith}
use Rattle.ring_sizes.specs.Phases.{begun}
use Rattle.slot_sizes.specs.SlotSchedules.{slot_drops_of_all}
use Rattle.slot_sizes.proofs.SlotTotals.{drops_at_ends, totals_in_all}
use Rattle.slot_sizes.proofs.slot_phases.slot_losses_of_all.Goals as goal

pub returns-clause-range : goal.returns-clause-range
returns-clause-range g c = λ size from end all inside same plain slots.
    let phase : ℕ = c.args.tries.now.first_phase in
    let pace = begun c.args.pace.now phase from in
    let is = totals_in_all size c.args.stalls.now pace c.args.members.now end all same plain in
    let number = ap (λ (n : ℕ). slot_drops_of_all n c.args.stalls.now pace c.args.members.now end) slots in
    let fewest = drops_at_ends c.args.stalls.now c.args.pace.now c.args.tries.now _ c.first_phase_of.ensures _ _ _
    c.args.slots c.args.members.now c.extremes_of_all-extremes.ensures.fewest end in
    let most = drops_at_ends c.args.stalls.now c.args.pace.now c.args.tries.now _ c.first_phase_of.ensures _ _ _
    c.args.slots c.args.members.now c.extremes_of_all-extremes.ensures.most end in (
      omega (arith, is, number, fewest.best phase from (omega arith, omega arith) inside),
      omega (arith, is, number, most.best phase from (omega arith, omega arith) inside),
    )

pub returns-clause-fewest : goal.returns-clause-fewest
returns-clause-fewest g c =
    drops_at_ends c.args.stalls.now c.args.pace.now c.args.tries.now _ c.first_phase_of.ensures _ _ _ c.args.slots
    c.args.members.now c.extremes_of_all-extremes.ensures.fewest

pub returns-clause-most : goal.returns-clause-most
returns-clause-most g c =
    drops_at_ends c.args.stalls.now c.args.pace.now c.args.tries.now _ c.first_phase_of.ensures _ _ _ c.args.slots
    c.args.members.now c.extremes_of_all-extremes.ensures.most
