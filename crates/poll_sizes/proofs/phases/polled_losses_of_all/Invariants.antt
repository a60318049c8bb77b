use Rattle.std.proofs.Common.{◌-◌, ◌<◌, ◌≤◌}
use Rattle.poll_sizes.specs.PollPhases.{polled_drops_at}
use Rattle.ring_sizes.specs.Phases.{IsFirstFewest, IsFirstMost}
use Rattle.poll_sizes.proofs.phases.polled_losses_of_all.Given as goal

abbrev pub invariant-loop-phase : goal.invariant-loop-phase
invariant-loop-phase l = record {
  some : l.tries.first_phase < l.phase;
  below : l.phase ≤ l.tries.phase_end;
  fewest : IsFirstFewest (record l.tries { phase_end = l.phase })
      (polled_drops_at l.room l.blocks l.stalls l.pace l.arrivals l.end) l.range.fewest;
  most : IsFirstMost (record l.tries { phase_end = l.phase })
      (polled_drops_at l.room l.blocks l.stalls l.pace l.arrivals l.end) l.range.most;
}

abbrev pub decreases-loop-phase : goal.decreases-loop-phase
decreases-loop-phase l = l.tries.phase_end - l.phase
