use Rattle.std.proofs.Common.{rules}
use Rattle.std.proofs.lemmas.Result.{IfOk-weaker}
use Rattle.capture_file.specs.Batches.{Left, IsFrontOf}
use Rattle.capture_file.proofs.RecordCopies.{first_data, one_more, no_more}
use Rattle.capture_file.proofs.record_reader.RecordReader.batch_of.Goals as goal

pub loop-rest-init : goal.loop-rest-init
loop-rest-init c =
    let order = c.args.self.format.order in
    record {
      copied = λ n. rw (
        c.in_ok-extend_from_slice.ensures.items,
        c.in_ok-piece.ensures.items,
        c.split_at-2.ensures.back,
        c.split_at.ensures.front,
        c.split_at.ensures.back,
      ) (first_data order c.args.size n c.args.bytes.now c.requires.first);
      some = search rules;
      few = search rules;
      room = search rules;
    }

pub loop-rest-preserved : goal.loop-rest-preserved
loop-rest-preserved c =
    let order = c.args.self.format.order in
    record {
      copied = λ n. rw (c.in_ok-extend_from_slice-2.ensures.items, c.split_at-in-loop-rest.ensures.back)
          (one_more order c.loop-rest.records c.loop-rest.piece.items c.args.bytes.now c.loop-rest.rest.now
          c.in-Some.record.now c.in-Some.behind.now c.loop-rest.invariant.copied c.in-Some.ensures.whole n);
      some = search rules;
      few = search rules;
      room = search rules;
    }

pub returns-clause-front : goal.returns-clause-front
returns-clause-front c =
    let order = c.args.self.format.order in
    let all = no_more order c.loop-rest.records c.loop-rest.piece.items c.args.bytes.now c.loop-rest.rest.now
    c.loop-rest.invariant.copied in
    IfOk-weaker c.of.result _ (λ (batch : Left). IsFrontOf order batch c.args.bytes.now) (λ batch is. rw is all) c.of.ensures
