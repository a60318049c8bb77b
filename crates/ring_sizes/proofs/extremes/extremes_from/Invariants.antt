use Rattle.std.proofs.Common.{◌+◌, ◌-◌, ◌<◌, ◌≤◌}
use Rattle.ring_sizes.specs.Phases.{IsFirstFewest, IsFirstMost, begun}
use Rattle.ring_sizes.proofs.extremes.extremes_from.Given as goal

abbrev pub invariant-loop-phase : goal.invariant-loop-phase
invariant-loop-phase g l = record {
  some : l.tries.first_phase < l.phase;
  below : l.phase ≤ l.tries.phase_end;
  fewest : IsFirstFewest (record l.tries { phase_end = l.phase; from_end = l.tries.first_from + 1 })
      (λ phase from. g.M.Measure.number l.measure (begun l.pace phase from)) l.extremes.fewest;
  most : IsFirstMost (record l.tries { phase_end = l.phase; from_end = l.tries.first_from + 1 })
      (λ phase from. g.M.Measure.number l.measure (begun l.pace phase from)) l.extremes.most;
}

abbrev pub decreases-loop-phase : goal.decreases-loop-phase
decreases-loop-phase g l = l.tries.phase_end - l.phase
