use Rattle.std.proofs.Common.{◌≡◌, ℕ, ◌+◌, ◌-◌, ◌≤◌, ◌^◌, max}
use Rattle.ring_sizes.specs.Courses.{IsSmall, all_went_on}
use Rattle.ring_sizes.specs.Schedules.{beats, tick_moment, ticks_by}
use Rattle.ring_sizes.proofs.courses.Course.rest.Given as goal

abbrev pub invariant-loop-ticks : goal.invariant-loop-ticks
invariant-loop-ticks l = record {
  begun : ticks_by l.pace l.since ≤ l.ticks;
  most : l.ticks ≤ max l.last (ticks_by l.pace l.since);
  early : l.from ≤ 2 ^ 53;
  soon : l.from ≤ tick_moment l.pace (l.ticks + 1);
  small : (bound : ℕ) → IsSmall (bound + ticks_by l.pace l.since) l.fn.self → IsSmall (bound + l.ticks) l.self;
  goes : (room : ℕ)
      → all_went_on room l.blocks l.pace.tov (beats l.stalls l.pace (l.last - l.ticks) l.ticks l.from l.at) l.self
      ≡ all_went_on room l.blocks l.pace.tov
      (beats l.stalls l.pace (l.last - ticks_by l.pace l.since) (ticks_by l.pace l.since) l.since l.at) l.fn.self;
}

abbrev pub decreases-loop-ticks : goal.decreases-loop-ticks
decreases-loop-ticks l = l.last - l.ticks
