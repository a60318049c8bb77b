use Rattle.std.proofs.Common.{◌≡◌}
use Rattle.receive_ring.specs.Rings.{ring_in}
use Rattle.run_reports.specs.RingSteps.{ticked}
use Rattle.replay_machine.specs.inside.Members.{Parts}
use Rattle.replay_machine.proofs.MemberSteps.{came_to, either, in_ok, may_be, stays_member, ticked_member}
use Rattle.replay_machine.proofs.member.RingMember.tick.Goals as goal

pub tick-requires-clause-may : goal.tick-requires-clause-may
tick-requires-clause-may g c =
    may_be g.R.ReceiveRing.may g.R.Unit.Layout.taken_in g.R.ReceiveRing.reads g.R.ReceiveRing.steps g.K.Setting.shape
    g.K.Setting.dumps (record {
      ring = g.R.ReceiveRing.seen c.self.inside.ring;
      reader = c.self.inside.reader;
      stuck = c.self.inside.stuck;
    }) c.self.invariant

pub invariant_of-self : goal.invariant_of-self
invariant_of-self g c =
    let before : Parts = record {
      ring = g.R.ReceiveRing.seen c.self.inside.ring;
      reader = c.self.inside.reader;
      stuck = c.self.inside.stuck;
    } in
    let after = g.R.ReceiveRing.seen c.tick.new.self in
    let steps = g.R.ReceiveRing.steps before.ring.shape in
    either c.tick.result _ (after ≡ before.ring) _ c.tick.ensures.ok c.tick.ensures.err
    (ticked_member g.R.ReceiveRing.may g.R.Unit.Layout.taken_in g.R.ReceiveRing.reads g.R.ReceiveRing.steps g.K.Setting.shape
    g.K.Setting.dumps g.met.R.ReceiveRing.reads_grow
    before c.args.self.now after c.args.ms (steps.ticks (ring_in g.R.ReceiveRing.steps before.ring) c.args.ms) c.self.invariant
    c.self.view_is c.requires.few)
    (stays_member g.R.ReceiveRing.may g.R.Unit.Layout.taken_in g.R.ReceiveRing.reads g.R.ReceiveRing.steps g.K.Setting.shape
    g.K.Setting.dumps before after c.self.invariant)

pub returns : goal.returns
returns g c =
    in_ok c.tick.result _ _ c.tick.ensures.ok
    (came_to g.R.ReceiveRing.may g.R.Unit.Layout.taken_in g.R.ReceiveRing.reads g.R.ReceiveRing.steps g.K.Setting.shape
    g.K.Setting.dumps
    (λ steps ring. ticked steps c.args.ms ring)
    (record { ring = g.R.ReceiveRing.seen c.self.inside.ring; reader = c.self.inside.reader; stuck = c.self.inside.stuck })
    c.args.self.now (g.R.ReceiveRing.seen c.tick.new.self) c.self.invariant c.self.view_is)
