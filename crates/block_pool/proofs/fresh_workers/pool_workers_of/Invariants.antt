use Rattle.std.proofs.Common.{◌≡◌, ◌+◌, ◌++◌, ◌≤◌, length}
use Rattle.std.specs.Prelude.{map}
use Rattle.std.specs.List.{AllByRecursion}
use Rattle.ticket_dealer.specs.Seats.{DealerValue, IsFreshOf}
use Rattle.work_queue.specs.Passes.{QueueValue}
use Rattle.block_pool.specs.Workers.{IsFreshWorker, IsFreshPassOf}
use Rattle.block_pool.proofs.fresh_workers.pool_workers_of.Given as goal

abbrev pub invariant-loop-pass : goal.invariant-loop-pass
invariant-loop-pass l = record {
  left : length l.pool_workers.items + length l.pass-iterator.rest.items ≡ length l.fn.passes.items;
  seats : length l.pass-iterator.rest.items ≤ length l.seats.items;
  passes : map (λ pool_worker. pool_worker.pass) l.pool_workers.items ++ l.pass-iterator.rest.items ≡ l.fn.passes.items;
  fresh : (queue : QueueValue) (dealer : DealerValue)
      → AllByRecursion (IsFreshPassOf queue) l.fn.passes.items
      → AllByRecursion (IsFreshOf dealer) l.fn.seats.items
      → AllByRecursion (IsFreshPassOf queue) l.pass-iterator.rest.items
      × AllByRecursion (IsFreshOf dealer) l.seats.items
      × AllByRecursion (IsFreshWorker queue dealer) l.pool_workers.items;
}
