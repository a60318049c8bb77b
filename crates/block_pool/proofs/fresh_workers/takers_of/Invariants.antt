use Rattle.std.proofs.Common.{◌≡◌, ◌+◌, ◌++◌, length}
use Rattle.std.specs.List.{AllByRecursion}
use Rattle.block_pool.specs.Takers.{first_takers}
use Rattle.block_pool.specs.Workers.{IsFreshPassOf}
use Rattle.block_pool.proofs.fresh_workers.takers_of.Given as goal

abbrev pub invariant-loop-pass : goal.invariant-loop-pass
invariant-loop-pass g l = record {
  left : length l.takers.items + length l.pass-iterator.rest.items ≡ length l.fn.passes.items;
  fresh : AllByRecursion (IsFreshPassOf l.queue) l.pass-iterator.rest.items;
  takers : l.takers.items ++ first_takers l.shape (length l.takers.items) l.pass-iterator.rest.items
      ≡ first_takers l.shape 0 l.fn.passes.items;
}
