use Rattle.std.proofs.Common.{◌≡◌, ◌+◌, ◌-◌, ◌≤◌}
use Rattle.ring_sizes.specs.Schedules.{awake}
use Rattle.ring_sizes.proofs.paces.Timing.awake.Given as goal

abbrev pub invariant-loop-done : goal.invariant-loop-done
invariant-loop-done l = record {
  few : l.awake ≤ l.done;
  goes : l.awake + awake l.stalls l.self l.done (l.to - l.done) ≡ awake l.stalls l.self l.from (l.to - l.from);
}

abbrev pub decreases-loop-done : goal.decreases-loop-done
decreases-loop-done l = l.to - l.done
