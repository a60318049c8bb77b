use Rattle.std.proofs.Common.{◌≡◌, ◌++◌}
use Rattle.block_pool.specs.inside.PieceTables.{IsFull, packets_at, texts_at}
use Rattle.block_pool.proofs.tables.PieceTable.read_out.Given as goal

abbrev pub invariant-loop-place : goal.invariant-loop-place
invariant-loop-place l = record {
  full : IsFull l.place-iterator.rest.items;
  walked : l.walked.items ++ packets_at l.place-iterator.rest.items ≡ packets_at l.fn.self;
  dump : l.dump ++ texts_at l.place-iterator.rest.items ≡ texts_at l.fn.self;
}
