use Rattle.std.proofs.Common.{ℕ, ◌+◌, ◌<◌, ◌^◌, subst, sym, arith}
use Rattle.ring_sizes.specs.Schedules.{step_moment}
use Rattle.ring_sizes.proofs.Counts.{step_fits, steps_fit}
use Rattle.ring_sizes.proofs.timed.TimedPlace.new.Goals as goal

pub overflow_add-steps : goal.overflow_add-steps
overflow_add-steps c =
    let few = steps_fit c.args.pace.now c.args.at c.requires.sound c.requires.early in
    omega (arith, few, c.steps_before-steps.ensures)

pub step_moment-requires-clause-small : goal.step_moment-requires-clause-small
step_moment-requires-clause-small c =
    subst (λ (steps : ℕ). step_moment c.args.pace.now (steps + 1) < 2 ^ 64) (sym c.steps_before-steps.ensures)
    (step_fits c.args.pace.now c.args.at c.requires.sound c.requires.early)
