use Rattle.std.proofs.Common.{◌≡◌, []}
use Rattle.crossbeam_queue.specs.SegTies.{IsSegPassOf}
use Rattle.work_queue.specs.Logs.{fresh_parts, log}
use Rattle.work_queue.proofs.new_queues.grow.Given as goal

abbrev pub invariant-loop : goal.invariant-loop
invariant-loop l = record {
  own : IsSegPassOf l.queue l.root;
  grown : l.root.me.view.client ≡ log l.counter (fresh_parts 0 l.counter) [];
}
