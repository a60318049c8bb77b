use Rattle.std.proofs.Common.{◌≡◌, false, rules}
use Rattle.replay_machine.proofs.MemberSteps.{few_taken, no_hand, same_kind, stepped_member}
use Rattle.replay_machine.proofs.member.RingMember.read.Goals as goal

pub step-requires-clause-kind : goal.step-requires-clause-kind
step-requires-clause-kind g c =
    let free : c.self.inside.stuck ≡ false = search rules in
    same_kind g.R.ReceiveRing.may g.R.Unit.Layout.taken_in g.R.ReceiveRing.reads g.R.ReceiveRing.steps g.K.Setting.shape
    g.K.Setting.dumps
    (record { ring = g.R.ReceiveRing.seen c.self.inside.ring; reader = c.self.inside.reader; stuck = c.self.inside.stuck })
    _ c.self.invariant free (g.met.R.ReceiveRing.walk_is c.self.inside.ring)

pub step-requires-clause-hand : goal.step-requires-clause-hand
step-requires-clause-hand g c =
    let free : c.self.inside.stuck ≡ false = search rules in
    no_hand g.R.ReceiveRing.may g.R.Unit.Layout.taken_in g.R.ReceiveRing.reads g.R.ReceiveRing.steps g.K.Setting.shape
    g.K.Setting.dumps
    (record { ring = g.R.ReceiveRing.seen c.self.inside.ring; reader = c.self.inside.reader; stuck = c.self.inside.stuck })
    _ c.self.invariant free (g.met.R.ReceiveRing.walk_is c.self.inside.ring)

pub step-requires-clause-few : goal.step-requires-clause-few
step-requires-clause-few g c =
    let free : c.self.inside.stuck ≡ false = search rules in
    few_taken g.R.ReceiveRing.may g.R.Unit.Layout.taken_in g.R.ReceiveRing.reads g.R.ReceiveRing.steps g.K.Setting.shape
    g.K.Setting.dumps g.met.R.ReceiveRing.reads_few
    (record { ring = g.R.ReceiveRing.seen c.self.inside.ring; reader = c.self.inside.reader; stuck = c.self.inside.stuck })
    c.self.invariant free

pub invariant_of-self : goal.invariant_of-self
invariant_of-self g c =
    let free : c.self.inside.stuck ≡ false = search rules in
    let step = stepped_member g.R.ReceiveRing.may g.R.Unit.Layout.taken_in g.R.ReceiveRing.reads g.R.ReceiveRing.steps
    g.K.Setting.shape g.K.Setting.dumps
    g.R.ReceiveRing.seen g.R.WalkerEnd.walk g.R.WalkerEnd.took g.R.WalkerEnd.stays g.met.R.ReceiveRing.walk_is
    g.met.R.ReceiveRing.took_is g.met.R.ReceiveRing.stays_is
    g.met.R.ReceiveRing.reads_all c.self.inside.ring c.step.new.end c.self.inside.reader c.step.new.self c.self.inside.stuck
    c.args.self.now c.in-Ok.field-0
    c.self.invariant c.self.view_is free c.in-Ok.ensures.read c.in-Ok.ensures.stays c.in-Ok.ensures.same c.in-Ok.ensures.waiting
    c.in-Ok.ensures.hand in
    step.is

pub returns-in-Ok : goal.returns-in-Ok
returns-in-Ok g c =
    let free : c.self.inside.stuck ≡ false = search rules in
    let step = stepped_member g.R.ReceiveRing.may g.R.Unit.Layout.taken_in g.R.ReceiveRing.reads g.R.ReceiveRing.steps
    g.K.Setting.shape g.K.Setting.dumps
    g.R.ReceiveRing.seen g.R.WalkerEnd.walk g.R.WalkerEnd.took g.R.WalkerEnd.stays g.met.R.ReceiveRing.walk_is
    g.met.R.ReceiveRing.took_is g.met.R.ReceiveRing.stays_is
    g.met.R.ReceiveRing.reads_all c.self.inside.ring c.step.new.end c.self.inside.reader c.step.new.self c.self.inside.stuck
    c.args.self.now c.in-Ok.field-0
    c.self.invariant c.self.view_is free c.in-Ok.ensures.read c.in-Ok.ensures.stays c.in-Ok.ensures.same c.in-Ok.ensures.waiting
    c.in-Ok.ensures.hand in
    step.once
