use Rattle.std.proofs.Common.{◌≡◌}
use Rattle.std.specs.List.{AllByRecursion}
use Rattle.block_pool.specs.inside.PieceTables.{HasPlaceIn, counts_of, put_each}
use Rattle.block_pool.proofs.tables.put_all.Given as goal

abbrev pub invariant-loop-piece : goal.invariant-loop-piece
invariant-loop-piece l = record {
  places : AllByRecursion (HasPlaceIn (counts_of l.tables.items)) l.piece-iterator.rest.items;
  put : put_each l.tables.items l.piece-iterator.rest.items ≡ put_each l.fn.tables.items l.fn.pieces.items;
}
