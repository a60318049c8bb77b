use Rattle.std.proofs.Common.{◌≡◌, ◌++◌, false}
use Rattle.std.specs.Prelude.{flat_map, map}
use Rattle.std.specs.List.{AllByRecursion}
use Rattle.block_pool.proofs.ended_takers.part_workers.Given as goal

abbrev pub invariant-loop-pool_worker : goal.invariant-loop-pool_worker
invariant-loop-pool_worker l = record {
  passes : l.passes.items ++ map (λ pool_worker. pool_worker.pass) l.pool_worker-iterator.rest.items
      ≡ l.fn.passes.items ++ map (λ pool_worker. pool_worker.pass) l.fn.pool_workers.items;
  pieces : l.pieces.items ++ flat_map (λ pool_worker. pool_worker.pieces.items) l.pool_worker-iterator.rest.items
      ≡ flat_map (λ pool_worker. pool_worker.pieces.items) l.fn.pool_workers.items;
  full : AllByRecursion (λ pool_worker. pool_worker.full ≡ false) l.pool_worker-iterator.rest.items
      → AllByRecursion (λ pool_worker. pool_worker.full ≡ false) l.fn.pool_workers.items;
}
