use Rattle.std.proofs.Common.{◌-◌, ◌<◌, ◌≤◌}
use Rattle.ring_sizes.specs.Phases.{IsFirstFewest, IsFirstMost, begun}
use Rattle.group_sizes.specs.Walks.{group_drops_of}
use Rattle.group_sizes.proofs.group_losses.group_losses_of_all.Given as goal

abbrev pub invariant-loop-phase : goal.invariant-loop-phase
invariant-loop-phase l = record {
  some : l.tries.first_phase < l.phase;
  below : l.phase ≤ l.tries.phase_end;
  fewest : IsFirstFewest (record l.tries { phase_end = l.phase })
      (λ phase from. group_drops_of l.rings l.routes l.stalls (begun l.pace phase from) l.arrivals l.end) l.range.fewest;
  most : IsFirstMost (record l.tries { phase_end = l.phase })
      (λ phase from. group_drops_of l.rings l.routes l.stalls (begun l.pace phase from) l.arrivals l.end) l.range.most;
}

abbrev pub decreases-loop-phase : goal.decreases-loop-phase
decreases-loop-phase l = l.tries.phase_end - l.phase
