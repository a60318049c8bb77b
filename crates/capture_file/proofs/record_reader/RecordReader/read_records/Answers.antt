use Rattle.std.proofs.Common.{refl, sym, ◌∙◌, arith, rules}
use Rattle.std.proofs.lemmas.List.{take_all}
use Rattle.capture_file.proofs.Lists.{front_more}
use Rattle.capture_file.specs.Batches.{data_in}
use Rattle.capture_file.proofs.RecordCopies.{behind_first, size_of_first}
use Rattle.capture_file.proofs.Records.{read_from-none, reads_on}
use Rattle.capture_file.proofs.record_reader.RecordReader.read_records.Goals as goal

pub loop-record-init : goal.loop-record-init
unfolding data_in
loop-record-init c = record {
  reads = search rules;
  front = take_all _ c.args.into.now (omega arith);
  count = search rules;
  places = search rules;
  fewer = search rules;
  copied = rw c.new-batch.ensures refl;
}

pub data_of-requires-clause-first : goal.data_of-requires-clause-first
data_of-requires-clause-first c =
    size_of_first c.args.self.format.order c.loop-record.rest.now c.in-Some.record.now c.in-Some.behind.now
    c.in-Some.ensures.whole

pub loop-record-preserved : goal.loop-record-preserved
loop-record-preserved c =
    let whole = c.in-Some.ensures.whole in
    record {
      reads = rw (c.behind-next.ensures, c.in_ok-push.ensures.ok, c.frame.ensures)
          (reads_on c.args.self.cpu c.args.self.format c.loop-record.next c.loop-record.into c.loop-record.rest.now
          c.in-Some.record.now c.in-Some.behind.now _ whole.whole whole.first_is whole.behind_is c.loop-record.invariant.reads);
      front = rw c.in_ok-push.ensures.ok (front_more c.args.into.now c.loop-record.into _ c.loop-record.invariant.front);
      count = search rules;
      places = search rules;
      fewer = search rules;
      copied = rw (behind_first c.args.self.format.order c.loop-record.rest.now c.in-Some.record.now _ whole)
          c.in_ok-captured.ensures.front;
    }

pub returns-clause-ok : goal.returns-clause-ok
returns-clause-ok c =
    sym (read_from-none c.args.self.cpu c.args.self.format c.loop-record.next c.loop-record.into c.loop-record.rest.now
    c.in_default.ensures.whole) ∙ c.loop-record.invariant.reads
