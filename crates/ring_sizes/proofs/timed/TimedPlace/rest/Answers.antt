use Rattle.std.proofs.Common.{◌≡◌, ℕ, ◌+◌, ◌<◌, ◌≤◌, ◌^◌, arith}
use Rattle.ring_sizes.specs.Schedules.{IsPace, tick_moment, ticks_by}
use Rattle.ring_sizes.specs.declared.paces.Timing.{Timing}
use Rattle.ring_sizes.proofs.Counts.{steps_rise, tick_comes}
use Rattle.ring_sizes.proofs.timed.TimedPlace.rest.Goals as goal

next_soon : (pace : Timing) (ticks at last : ℕ) → IsPace pace → at ≡ tick_moment pace (ticks + 1)
    → last ≤ ticks_by pace (2 ^ 53) → ticks < last → at ≤ 2 ^ 53
next_soon pace ticks at last sound e few more =
    let soon = (tick_comes pace (2 ^ 53) (ticks + 1) sound.tov).0 (omega (arith, few, more)) in omega (arith, e, soon)

pub steps_before-steps-requires-clause-early : goal.steps_before-steps-requires-clause-early
steps_before-steps-requires-clause-early c =
    next_soon c.args.pace.now c.args.self.ticks c.args.self.tick_at c.args.last c.requires.sound c.requires.next
    c.requires.ticks
    c.if-last-self.false.1

pub read_to-requires-else-last-self-clause-early : goal.read_to-requires-else-last-self-clause-early
read_to-requires-else-last-self-clause-early c =
    let soon = next_soon c.args.pace.now c.args.self.ticks c.args.self.tick_at c.args.last c.requires.sound c.requires.next
    c.requires.ticks c.if-last-self.false.1 in
    let rise = steps_rise c.args.pace.now c.args.self.tick_at (2 ^ 53) c.requires.sound soon in
    omega (arith, rise, c.steps_before-steps.ensures)
