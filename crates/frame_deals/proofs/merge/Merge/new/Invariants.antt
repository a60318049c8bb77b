use Rattle.std.proofs.Common.{◌≡◌, ◌-◌, ◌≤◌, [], length, replicate}
use Rattle.frame_deals.proofs.merge.Merge.new.Given as goal

abbrev pub invariant-opening : goal.invariant-opening
invariant-opening l = record {
  few : length l.members.items ≤ l.count;
  empty : l.members.items ≡ replicate (length l.members.items) [];
}

abbrev pub decreases-opening : goal.decreases-opening
decreases-opening l = l.count - length l.members.items
