use Rattle.std.proofs.Common.{◌≡◌, false}
use Rattle.ticket_dealer.specs.Seats.{IsFreshOf}
use Rattle.block_pool.specs.Workers.{HasDecoded}
use Rattle.block_pool.proofs.workers.run_pool_worker.Given as goal

abbrev pub invariant-loop : goal.invariant-loop
invariant-loop g l = record {
  decoded : HasDecoded l.pool.decoder.now.dumps l.pool.queue.now l.initial.pool_worker l.pool_worker;
  full : l.pool_worker.full ≡ false;
  seat : IsFreshOf l.pool.dealer.now l.pool_worker.seat;
}
