use Rattle.std.proofs.Common.{◌-◌, ◌≤◌, length, take}
use Rattle.frame_deals.specs.inside.Merges.{IsNext}
use Rattle.frame_deals.proofs.merge.Merge.next.Given as goal

abbrev pub invariant-looking : goal.invariant-looking
invariant-looking l = record {
  within : l.cpu ≤ length l.self.queues.items;
  found : IsNext l.self.first (take l.cpu l.self.queues.items) l.found;
}

abbrev pub decreases-looking : goal.decreases-looking
decreases-looking l = length l.self.queues.items - l.cpu
