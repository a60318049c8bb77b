use Rattle.std.proofs.Common.{arith}
use Rattle.capture_file.proofs.Steps.{comes_if}
use Rattle.capture_file.proofs.record_reader.RecordReader.go_on.Goals as goal

pub returns-clause-ok : goal.returns-clause-ok
returns-clause-ok c =
    comes_if c.args.self.cpu c.args.self.format c.args.next c.args.into.now c.args.kept.now.items c.args.piece.now
    c.complete.new.kept.items c.in_ok-fresh.fresh.now
    c.read_fresh.new.kept.items c.read_fresh.new.into c.in_ok-next.next c.read_records.new.into c.in_ok-next.part.now _ _
    c.read_fresh.result
    c.in_ok-fresh.ensures.ok c.as_slice.ensures.value c.in_ok-next.ensures.ok (omega (arith, c.len.ensures))
    c.read_fresh.ensures.ok
