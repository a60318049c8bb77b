-- A worker of the pool.
use Rattle.std.specs.Prelude.{◌≡◌, Bool, false, []}
use Rattle.std.specs.List.{AllZip}
use Rattle.block_pool.specs.Pieces.{IsPieceOf}
use Rattle.block_pool.specs.declared.workers.PoolWorker.{PoolWorker}
use Rattle.ticket_dealer.specs.Seats.{DealerValue, IsFreshOf}
use Rattle.work_queue.specs.Passes.{IsPassOf, PassValue, QueueValue}

-- a pass of this queue that has done nothing
pub record IsFreshPassOf (queue : QueueValue) (pass : PassValue) : Type 0 where
  pub own : IsPassOf queue pass
  pub none_handed : pass.handed ≡ []
  pub none_fetched : pass.fetched ≡ []
  pub no_calls : pass.calls ≡ 0

-- a worker of this queue that has fetched nothing
pub record IsFreshWorker (queue : QueueValue) (dealer : DealerValue) (pool_worker : PoolWorker)
    : Type 0 where
  pub pass : IsFreshPassOf queue pool_worker.pass
  pub fetches : pool_worker.fetches ≡ 0
  pub none : pool_worker.pieces.items ≡ []
  pub full : pool_worker.full ≡ false
  pub seat : IsFreshOf dealer pool_worker.seat

-- A worker of this queue, which hands nothing in: unless an allocation failed it has a piece of
-- each work that it fetched, in order
pub record HasDecoded (dumps : Bool) (queue : QueueValue) (before after : PoolWorker) : Type 0 where
  pub own : IsPassOf queue after.pass
  pub name : after.pass.name ≡ before.pass.name
  pub none_handed : after.pass.handed ≡ []
  pub counted : after.pass.calls ≡ after.fetches
  pub decoded : after.full ≡ false → AllZip (IsPieceOf dumps) after.pass.fetched after.pieces.items
