use Rattle.std.proofs.Common.{◌-◌, ◌<◌, ◌≤◌}
use Rattle.ring_sizes.specs.Phases.{IsFirstFewest, IsFirstMost, begun}
use Rattle.ring_sizes.proofs.extremes.extremes_of_phases.Given as goal

abbrev pub invariant-loop-from : goal.invariant-loop-from
invariant-loop-from g l = record {
  some : l.tries.first_from < l.from;
  below : l.from ≤ l.tries.from_end;
  fewest : IsFirstFewest (record l.tries { from_end = l.from })
      (λ phase from. g.M.Measure.number l.measure (begun l.pace phase from)) l.extremes.fewest;
  most : IsFirstMost (record l.tries { from_end = l.from })
      (λ phase from. g.M.Measure.number l.measure (begun l.pace phase from)) l.extremes.most;
}

abbrev pub decreases-loop-from : goal.decreases-loop-from
decreases-loop-from g l = l.tries.from_end - l.from
