use Rattle.replay_machine.proofs.MemberSteps.{new_member, new_ring}
use Rattle.replay_machine.proofs.member.RingMember.new.Goals as goal

pub invariant_of-result : goal.invariant_of-result
invariant_of-result g c =
    new_member g.R.ReceiveRing.may g.R.Unit.Layout.taken_in g.R.ReceiveRing.reads g.R.ReceiveRing.steps g.K.Setting.shape
    g.K.Setting.dumps
    c.args.shape.now c.args.dump (g.R.ReceiveRing.seen c.in_ok-open.field-0) c.new.result c.requires.shape c.requires.dump
    c.requires.may c.in_ok-open.ensures c.new.ensures

pub returns : goal.returns
returns g c = new_ring g.R.ReceiveRing.may g.R.Unit.Layout.taken_in g.R.ReceiveRing.reads g.R.ReceiveRing.steps
    g.K.Setting.shape g.K.Setting.dumps c.args.shape.now (g.R.ReceiveRing.seen c.in_ok-open.field-0) c.in_ok-open.ensures
