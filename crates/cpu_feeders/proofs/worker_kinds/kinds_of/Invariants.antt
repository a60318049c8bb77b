use Rattle.std.proofs.Common.{◌≡◌, ◌++◌, false}
use Rattle.std.specs.Prelude.{flat_map}
use Rattle.std.specs.List.{AllByRecursion}
use Rattle.cpu_feeders.specs.inside.WorkerKinds.{feeder_in, is_full, timer_in, walker_in}
use Rattle.cpu_feeders.proofs.worker_kinds.kinds_of.Given as goal

abbrev pub invariant-loop-worker : goal.invariant-loop-worker
invariant-loop-worker g l = record {
  full : AllByRecursion (λ worker. is_full worker ≡ false) l.worker-iterator.rest.items
      → AllByRecursion (λ worker. is_full worker ≡ false) l.fn.workers.items;
  walkers : l.kinds.walkers.items ++ flat_map walker_in l.worker-iterator.rest.items ≡ flat_map walker_in l.fn.workers.items;
  timers : l.kinds.timers.items ++ flat_map timer_in l.worker-iterator.rest.items ≡ flat_map timer_in l.fn.workers.items;
  feeders : l.kinds.feeders.items ++ flat_map feeder_in l.worker-iterator.rest.items ≡ flat_map feeder_in l.fn.workers.items;
}
