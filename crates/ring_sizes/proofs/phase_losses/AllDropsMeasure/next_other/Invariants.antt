-- Up to this phase the members so far drop as many.
use Rattle.std.proofs.Common.{◌<◌, ◌≤◌}
use Rattle.ring_sizes.proofs.Totals.{IsEnough}
use Rattle.ring_sizes.proofs.phase_losses.AllDropsMeasure.next_other.Given as goal

abbrev pub invariant-loop-arrivals : goal.invariant-loop-arrivals
invariant-loop-arrivals l = record {
  later : l.pace.phase < l.next;
  last : l.next ≤ l.phase_end;
  enough : IsEnough l.self.room l.self.blocks l.self.stalls.now l.pace l.self.members.now l.self.end l.arrivals-index l.next;
}
