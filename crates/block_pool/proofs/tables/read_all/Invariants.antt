use Rattle.std.proofs.Common.{◌≡◌, ◌++◌}
use Rattle.std.specs.Prelude.{map}
use Rattle.block_pool.specs.inside.PieceTables.{AreFull, read_of}
use Rattle.block_pool.proofs.tables.read_all.Given as goal

abbrev pub invariant-loop-table : goal.invariant-loop-table
invariant-loop-table l = record {
  full : AreFull l.table-iterator.rest.items;
  read : l.outputs.items ++ map read_of l.table-iterator.rest.items ≡ map read_of l.fn.tables.items;
}
