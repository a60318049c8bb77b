use Rattle.std.proofs.Common.{◌+◌, ◌-◌, ◌<◌, ◌≤◌}
use Rattle.ring_sizes.specs.Phases.{IsFirstFewest, IsFirstMost, begun}
use Rattle.group_sizes.specs.Walks.{group_drops_of}
use Rattle.group_sizes.proofs.group_losses.losses_at_phase.Given as goal

abbrev pub invariant-loop-from : goal.invariant-loop-from
invariant-loop-from l = record {
  some : l.tries.first_from < l.from;
  below : l.from ≤ l.tries.from_end;
  fewest : IsFirstFewest (record l.tries { phase_end = l.tries.first_phase + 1; from_end = l.from })
      (λ phase from. group_drops_of l.rings l.routes l.stalls (begun l.pace phase from) l.arrivals l.end) l.range.fewest;
  most : IsFirstMost (record l.tries { phase_end = l.tries.first_phase + 1; from_end = l.from })
      (λ phase from. group_drops_of l.rings l.routes l.stalls (begun l.pace phase from) l.arrivals l.end) l.range.most;
}

abbrev pub decreases-loop-from : goal.decreases-loop-from
decreases-loop-from l = l.tries.from_end - l.from
