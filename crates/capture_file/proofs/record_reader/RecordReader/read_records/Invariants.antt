use Rattle.std.proofs.Common.{◌≡◌, ◌+◌, ◌*◌, ◌≤◌, length, take}
use Rattle.capture_file.specs.Batches.{IsFrontOf}
use Rattle.capture_file.specs.Feeds.{read_from}
use Rattle.capture_file.proofs.record_reader.RecordReader.read_records.Given as goal

-- the frames so far, and those of what is left, are all
abbrev pub invariant-loop-record : goal.invariant-loop-record
invariant-loop-record l = record {
  reads : read_from l.self.cpu l.self.format l.next l.into l.rest
      ≡ read_from l.self.cpu l.self.format l.fn.next l.fn.into l.bytes;
  front : take (length l.fn.into) l.into ≡ l.fn.into;
  count : 16 * l.next.index ≤ l.next.stop;
  places : l.next.stop + length l.rest ≡ l.fn.next.stop + length l.bytes;
  fewer : length l.rest ≤ length l.bytes;
  copied : IsFrontOf l.self.format.order l.batch l.rest;
}

abbrev pub decreases-loop-record : goal.decreases-loop-record
decreases-loop-record l = length l.rest
