use Rattle.std.proofs.Common.{◌≡◌}
use Rattle.crossbeam_queue.specs.SegTies.{IsSegPassOf}
use Rattle.work_queue.specs.Logs.{log}
use Rattle.work_queue.proofs.closed_queues.drain.Given as goal

abbrev pub invariant-loop : goal.invariant-loop
invariant-loop g l = record {
  own : IsSegPassOf l.queue l.root;
  taken : l.root.me.view.client ≡ log l.fn.root.me.view.client.all l.fn.root.me.view.client.parts l.left.items;
}
