use Rattle.std.proofs.Common.{◌≡◌}
use Rattle.std.specs.Prelude.{replicate}
use Rattle.reader_walk.specs.Readers.{new_reader}
use Rattle.cpu_feeders.proofs.workers.readers_of.Given as goal

abbrev pub invariant-loop-reader : goal.invariant-loop-reader
invariant-loop-reader l = l.readers.items ≡ replicate l._reader (new_reader l.shape l.dump)
