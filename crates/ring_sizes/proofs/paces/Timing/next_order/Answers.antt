use Rattle.std.proofs.Common.{ℕ, ◌≡◌, ◌+◌, ◌*◌, ◌/◌, ◌≤◌, min, refl, subst, arith}
use Rattle.std.proofs.Math.Nat.{div-mul-le_self}
use Rattle.std.proofs.lemmas.Grind.{common_steps}
use Rattle.ring_sizes.specs.Orders.{at_phase}
use Rattle.ring_sizes.specs.Schedules.{schedule_to}
use Rattle.ring_sizes.specs.declared.paces.Timing.{Timing}
use Rattle.ring_sizes.proofs.SameOrder.{same_events}
use Rattle.ring_sizes.proofs.paces.Timing.next_order.Goals as goal

pub returns-then-by_steps-lt-MILLISECOND-clause-same : goal.returns-then-by_steps-lt-MILLISECOND-clause-same
returns-then-by_steps-lt-MILLISECOND-clause-same c = λ stalls phase more few.
    let pace : Timing = c.args.self.now in
    let same : pace.phase ≡ phase = omega (arith, more, few) in
    subst (λ (phase : ℕ). schedule_to stalls (at_phase pace phase) c.args.arrivals.now c.args.end
    ≡ schedule_to stalls pace c.args.arrivals.now c.args.end) same refl

least_of_both : (less one other : ℕ) → less ≡ min one other → (less ≤ one) × (less ≤ other)
least_of_both less one other e = (grind (arith, common_steps), grind (arith, common_steps))

pub returns-clause-same : goal.returns-clause-same
returns-clause-same c = λ stalls phase more few.
    let pace : Timing = c.args.self.now in
    let both = least_of_both c.min-leeway.result c.leeway_to_steps-by_steps.result c.leeway_to_frames.result
    c.min-leeway.ensures in
    let phases = least_of_both c.min-more.result (c.min-leeway.result / 1000000) c.from.result c.min-more.ensures in
    let left = div-mul-le_self c.min-leeway.result 1000000 in
    let early : phase * 1000000 ≤ pace.phase * 1000000 + c.min-leeway.result = omega (arith, few, phases.0, left) in
    same_events stalls pace phase c.args.end c.args.arrivals.now c.requires.sound.phase
    (omega (arith, few, phases.1, c.from.ensures, c.requires.phases))
    (c.leeway_to_frames.ensures phase more (omega (arith, early, both.1)))
    (c.leeway_to_steps-by_steps.ensures phase more (omega (arith, early, both.0)))
