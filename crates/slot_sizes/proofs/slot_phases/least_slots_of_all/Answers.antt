use Rattle.std.proofs.Common.{ℕ, ◌↔◌, ◌≤◌, subst, sym, arith}
use Rattle.ring_sizes.specs.Phases.{begun}
use Rattle.ring_sizes.specs.declared.tries.Reached.{Reached}
use Rattle.slot_sizes.specs.SlotHappenings.{IsNeverFull}
use Rattle.slot_sizes.proofs.SlotPhases.{least_some, never_at}
use Rattle.slot_sizes.proofs.SlotTotals.{least_at_ends}
use Rattle.slot_sizes.proofs.slot_phases.least_slots_of_all.Goals as goal

pub returns-clause-some : goal.returns-clause-some
returns-clause-some g c =
    let worst : Reached = c.extremes_of_all.result.most in
    let some = least_some c.args.stalls.now (begun c.args.pace.now worst.phase worst.from) c.args.arrivals.now 0 in
    omega (arith, some, c.extremes_of_all.ensures.most.reached)

pub returns-clause-enough : goal.returns-clause-enough
returns-clause-enough g c = λ size from end happenings inside same few.
    let phase : ℕ = c.args.tries.now.first_phase in
    let pace = begun c.args.pace.now phase from in
    let some = least_some c.args.stalls.now pace c.args.arrivals.now end in
    let first = least_at_ends c.args.stalls.now c.args.pace.now c.args.tries.now _ c.first_phase_of.ensures _
    c.args.arrivals.now c.extremes_of_all.ensures.most end in
    let best = first.best phase from (omega arith, omega arith) inside in
    (never_at size c.args.stalls.now pace c.args.arrivals.now end happenings same (omega (arith, some, best, few))).1
    (omega (arith, best, few))

pub returns-clause-reached : goal.returns-clause-reached
returns-clause-reached g c = λ size end happenings same some.
    let worst : Reached = c.extremes_of_all.result.most in
    let first = least_at_ends c.args.stalls.now c.args.pace.now c.args.tries.now _ c.first_phase_of.ensures _
    c.args.arrivals.now c.extremes_of_all.ensures.most end in
    subst (λ (least : ℕ). IsNeverFull size happenings ↔ (least ≤ size.blocks)) (sym first.reached)
    (never_at size c.args.stalls.now (begun c.args.pace.now worst.phase worst.from) c.args.arrivals.now end happenings same
    some)

pub returns-clause-first : goal.returns-clause-first
returns-clause-first g c =
    least_at_ends c.args.stalls.now c.args.pace.now c.args.tries.now _ c.first_phase_of.ensures _ c.args.arrivals.now
    c.extremes_of_all.ensures.most
