use Rattle.std.proofs.Common.{◌≡◌, ◌++◌, length}
use Rattle.std.specs.Prelude.{map}
use Rattle.std.specs.List.{AllByRecursion}
use Rattle.block_pool.specs.inside.PieceTables.{empty_table}
use Rattle.block_pool.specs.Takers.{HasNumbered}
use Rattle.block_pool.proofs.ended_takers.part_takers.Given as goal

abbrev pub invariant-loop-taker : goal.invariant-loop-taker
invariant-loop-taker g l = record {
  passes : l.passes.items ++ map (λ taker. taker.pass) l.taker-iterator.rest.items
      ≡ l.fn.passes.items ++ map (λ taker. taker.pass) l.fn.takers.items;
  tables : l.tables.items ++ map (λ taker. empty_table (length taker.pass.handed)) l.taker-iterator.rest.items
      ≡ map (λ taker. empty_table (length taker.pass.handed)) l.fn.takers.items;
  numbered : AllByRecursion HasNumbered l.taker-iterator.rest.items → AllByRecursion HasNumbered l.fn.takers.items;
}
