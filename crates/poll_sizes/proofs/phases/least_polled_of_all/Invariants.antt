use Rattle.std.proofs.Common.{◌-◌, ◌<◌, ◌≤◌}
use Rattle.poll_sizes.specs.PollPhases.{least_polled_at}
use Rattle.ring_sizes.specs.Phases.{IsFirstMost}
use Rattle.poll_sizes.proofs.phases.least_polled_of_all.Given as goal

abbrev pub invariant-loop-phase : goal.invariant-loop-phase
invariant-loop-phase l = record {
  some : l.tries.first_phase < l.phase;
  below : l.phase ≤ l.tries.phase_end;
  far : IsFirstMost (record l.tries { phase_end = l.phase }) (least_polled_at l.room l.stalls l.pace l.arrivals l.end) l.worst;
}

abbrev pub decreases-loop-phase : goal.decreases-loop-phase
decreases-loop-phase l = l.tries.phase_end - l.phase
