use Rattle.std.proofs.Common.{length, ap, arith}
use Rattle.tap_forward.proofs.Forwards.{ended, may_give}
use Rattle.tap_forward.proofs.forwarder.Forwarder.end.Goals as goal

pub give_all-requires-clause-few : goal.give_all-requires-clause-few
give_all-requires-clause-few c =
    let few = (may_give c.self.inside c.self.invariant).0 in
    let size = ap length c.walked.ensures in
    omega (arith, few, size)

pub give_all-requires-clause-counted : goal.give_all-requires-clause-counted
give_all-requires-clause-counted c =
    let few = (may_give c.self.inside c.self.invariant).1 in
    let size = ap length c.walked.ensures in
    omega (arith, few, size)

pub returns : goal.returns
returns c =
    ended c.self.inside c.args.self c.give_all.new.self c.send.new.self c.walked.result.now c.give_all.new.given
    c.outputs.result c.self.invariant
    c.self.view_is c.walked.ensures c.in_ok-give_all.ensures.all c.give_all.ensures.given c.send.ensures.given
    c.give_all.ensures.shape
    c.send.ensures.shape c.in_ok-send.ensures.emptied c.outputs.ensures
