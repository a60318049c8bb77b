use Rattle.std.proofs.Common.{◌≡◌, ◌-◌, []}
use Rattle.crossbeam_queue.specs.SegTies.{IsSegPassOf}
use Rattle.work_queue.specs.Logs.{fresh_parts, log}
use Rattle.work_queue.specs.Passes.{fresh_passes}
use Rattle.work_queue.proofs.new_queues.part.Given as goal

abbrev pub invariant-loop : goal.invariant-loop
invariant-loop l = record {
  own : IsSegPassOf l.queue l.root;
  rest : l.root.me.view.client ≡ log l.passes (fresh_parts l.counter (l.passes - l.counter)) [];
  made : l.made.items ≡ fresh_passes l.queue.web l.passes 0 l.counter;
}
