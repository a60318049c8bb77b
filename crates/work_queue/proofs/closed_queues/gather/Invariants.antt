use Rattle.std.proofs.Common.{◌≡◌, ◌<◌, ◌++◌, [], length}
use Rattle.std.specs.List.{AllByRecursion}
use Rattle.crossbeam_queue.specs.SegTies.{IsSegPassOf}
use Rattle.work_queue.specs.Passes.{IsPassAt, parts_of}
use Rattle.work_queue.proofs.closed_queues.gather.Given as goal

abbrev pub invariant-loop-other : goal.invariant-loop-other
invariant-loop-other l = record {
  own : IsSegPassOf l.queue l.root;
  some : 0 < length l.root.me.view.client.parts;
  all : l.root.me.view.client.all ≡ l.count;
  none : l.root.me.view.client.left ≡ [];
  parts : parts_of l.passes.items ++ l.root.me.view.client.parts ≡ parts_of l.fn.passes.items;
  rest : AllByRecursion (IsPassAt l.queue.web l.count) l.passes.items;
}

abbrev pub decreases-loop-other : goal.decreases-loop-other
decreases-loop-other l = goal.left-loop-other l
