use Rattle.std.proofs.Common.{◌≡◌, ◌≤◌, drop, length}
use Rattle.frame_deals.proofs.NextFrames.{times_left}
use Rattle.reader_pace.specs.Timelines.{first_time}
use Rattle.frame_deals.proofs.merge.first_of.Given as goal

abbrev pub invariant-looking : goal.invariant-looking
invariant-looking l = record {
  within : l.cpu ≤ length l.queues;
  found : l.first ≡ first_time (times_left (drop l.cpu l.queues));
}

abbrev pub decreases-looking : goal.decreases-looking
decreases-looking l = l.cpu
