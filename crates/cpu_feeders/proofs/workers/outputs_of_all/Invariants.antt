use Rattle.std.proofs.Common.{◌≡◌, ◌++◌, None}
use Rattle.std.specs.Prelude.{map}
use Rattle.std.specs.List.{AllByRecursion}
use Rattle.reader_walk.specs.Readers.{outputs_of}
use Rattle.cpu_feeders.proofs.workers.outputs_of_all.Given as goal

abbrev pub invariant-loop-reader : goal.invariant-loop-reader
invariant-loop-reader l = record {
  held : AllByRecursion (λ reader. reader.held ≡ None) l.reader-iterator.rest.items;
  read : l.outputs.items ++ map outputs_of l.reader-iterator.rest.items ≡ map outputs_of l.fn.readers.items;
}
