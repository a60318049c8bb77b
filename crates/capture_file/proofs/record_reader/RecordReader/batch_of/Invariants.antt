use Rattle.std.proofs.Common.{◌≡◌, ◌+◌, ◌≤◌, ◌<◌, ℕ, ◌++◌, length}
use Rattle.capture_file.specs.Batches.{data_in}
use Rattle.capture_file.proofs.record_reader.RecordReader.batch_of.Given as goal

-- with the data of any number of records that are to come, the piece has those of as many more
abbrev pub invariant-loop-rest : goal.invariant-loop-rest
invariant-loop-rest l = record {
  copied : (n : ℕ) → l.piece.items ++ data_in n l.self.format.order l.rest
      ≡ data_in (l.records + n) l.self.format.order l.bytes;
  some : 0 < l.records;
  few : l.records + length l.rest ≤ length l.bytes;
  room : length l.piece.items + length l.rest ≤ length l.bytes;
}

abbrev pub decreases-loop-rest : goal.decreases-loop-rest
decreases-loop-rest l = length l.rest
