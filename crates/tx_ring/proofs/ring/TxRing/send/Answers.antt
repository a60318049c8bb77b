use Rattle.std.proofs.Common.{sym, ap, ◌∙◌, arith}
use Rattle.std.proofs.lemmas.Result.{err_from_is_err_and}
use Rattle.tx_ring.specs.Sends.{answer_with, stop_at_front}
use Rattle.tx_ring.proofs.Sends.{all_counted, answers, appended, at_end, ends_by, goes_on, leaves, some_left, starts}
use Rattle.tx_ring.proofs.Sends.{stopped_answer}
use Rattle.tx_ring.proofs.ring.TxRing.send.Goals as goal

pub returns-in-Some-clause-answer : goal.returns-in-Some-clause-answer
returns-in-Some-clause-answer c =
    sym (stopped_answer c.self.invariant c.self.view_is c.in-Some.is).0

pub returns-in-Some-clause-ring : goal.returns-in-Some-clause-ring
returns-in-Some-clause-ring c =
    sym (stopped_answer c.self.invariant c.self.view_is c.in-Some.is).1

pub loop-init : goal.loop-init
loop-init c = rw c.reserve.ensures (starts c.args.self.now c.args.out.now, c.outgoing-frames.ensures)

pub take_front-requires : goal.take_front-requires
take_front-requires c =
    record {
      some = some_left c.loop.invariant.0 (omega arith);
      frames = c.loop.invariant.1;
    }

pub count_one-counts-requires : goal.count_one-counts-requires
count_one-counts-requires c =
    let all = all_counted c.loop.invariant.0 in
    omega arith

pub returns-in_err-is_sent-clause-answer : goal.returns-in_err-is_sent-clause-answer
returns-in_err-is_sent-clause-answer c =
    let end = ends_by _ c.loop.invariant.0 (omega arith) c.in_err-is_sent.ensures.taken in
    let p = err_from_is_err_and c.from_residual.result c.from_residual.ensures.1 in
    rw (p.1, p.2) end.answer

pub returns-in_err-is_sent-clause-ring : goal.returns-in_err-is_sent-clause-ring
returns-in_err-is_sent-clause-ring c =
    let end = ends_by _ c.loop.invariant.0 (omega arith) c.in_err-is_sent.ensures.taken in
    let p = err_from_is_err_and c.from_residual.result c.from_residual.ensures.1 in
    rw (p.1, p.2) end.ring

pub returns-in_err-is_sent-clause-packets : goal.returns-in_err-is_sent-clause-packets
returns-in_err-is_sent-clause-packets c =
    let end = ends_by _ c.loop.invariant.0 (omega arith) c.in_err-is_sent.ensures.taken in
    let p = err_from_is_err_and c.from_residual.result c.from_residual.ensures.1 in
    rw (p.1, p.2) end.packets

pub returns-in_err-is_sent-clause-memory : goal.returns-in_err-is_sent-clause-memory
returns-in_err-is_sent-clause-memory c =
    let end = ends_by _ c.loop.invariant.0 (omega arith) c.in_err-is_sent.ensures.taken in
    let p = err_from_is_err_and c.from_residual.result c.from_residual.ensures.1 in
    rw (p.1, p.2) end.memory

pub loop-preserved : goal.loop-preserved
loop-preserved c =
    rw c.count_one-counts.ensures (
      goes_on c.in_ok-is_sent.is_sent c.loop.invariant.0 (omega arith) c.in_ok-is_sent.ensures.taken,
      c.in_ok-is_sent.ensures.frames,
    )

pub returns-clause-answer : goal.returns-clause-answer
returns-clause-answer c =
    let end = at_end c.loop.invariant.0 (omega arith) in
    sym (answers c.loop.invariant.0 end.1 ∙ ap (answer_with c.loop.self c.loop.counts) end.0)

pub returns-clause-ring : goal.returns-clause-ring
returns-clause-ring c =
    let end = at_end c.loop.invariant.0 (omega arith) in
    sym (leaves c.loop.invariant.0 end.1 ∙ ap (stop_at_front c.loop.self) end.0)

pub returns-clause-packets : goal.returns-clause-packets
returns-clause-packets c =
    let end = at_end c.loop.invariant.0 (omega arith) in
    appended c.loop.invariant.0 end.1
