use Rattle.std.proofs.Common.{◌≡◌}
use Rattle.receive_ring.specs.Rings.{note_of_put}
use Rattle.run_reports.specs.RingSteps.{put_note}
use Rattle.ring_model.specs.Rings.{noted}
use Rattle.replay_machine.specs.inside.Members.{Parts}
use Rattle.replay_machine.proofs.MemberSteps.{came_to, either, in_ok, may_be, noted_member, stays_member, takes_it}
use Rattle.replay_machine.proofs.member.RingMember.put.Goals as goal

pub put-requires-clause-may : goal.put-requires-clause-may
put-requires-clause-may g c =
    may_be g.R.ReceiveRing.may g.R.Unit.Layout.taken_in g.R.ReceiveRing.reads g.R.ReceiveRing.steps g.K.Setting.shape
    g.K.Setting.dumps (record {
      ring = g.R.ReceiveRing.seen c.self.inside.ring;
      reader = c.self.inside.reader;
      stuck = c.self.inside.stuck;
    }) c.self.invariant

pub put-requires-clause-takes : goal.put-requires-clause-takes
put-requires-clause-takes g c =
    takes_it g.R.ReceiveRing.may g.R.Unit.Layout.taken_in g.R.ReceiveRing.reads g.R.ReceiveRing.steps g.K.Setting.shape
    g.K.Setting.dumps
    (record { ring = g.R.ReceiveRing.seen c.self.inside.ring; reader = c.self.inside.reader; stuck = c.self.inside.stuck })
    c.args.self.now c.args.offer c.self.invariant c.self.view_is c.requires.takes

pub invariant_of-self : goal.invariant_of-self
invariant_of-self g c =
    let before : Parts = record {
      ring = g.R.ReceiveRing.seen c.self.inside.ring;
      reader = c.self.inside.reader;
      stuck = c.self.inside.stuck;
    } in
    let after = g.R.ReceiveRing.seen c.put.new.self in
    let note = note_of_put g.R.ReceiveRing.steps before.ring c.args.offer in
    either c.put.result _ (after ≡ before.ring) _ c.put.ensures.ok c.put.ensures.err
    (noted_member g.R.ReceiveRing.may g.R.Unit.Layout.taken_in g.R.ReceiveRing.reads g.R.ReceiveRing.steps g.K.Setting.shape
    g.K.Setting.dumps g.met.R.ReceiveRing.reads_grow
    before c.args.self.now after note c.self.invariant c.self.view_is c.requires.few)
    (stays_member g.R.ReceiveRing.may g.R.Unit.Layout.taken_in g.R.ReceiveRing.reads g.R.ReceiveRing.steps g.K.Setting.shape
    g.K.Setting.dumps before after c.self.invariant)

pub returns-clause-ok : goal.returns-clause-ok
returns-clause-ok g c =
    in_ok c.put.result _ _ c.put.ensures.ok
    (came_to g.R.ReceiveRing.may g.R.Unit.Layout.taken_in g.R.ReceiveRing.reads g.R.ReceiveRing.steps g.K.Setting.shape
    g.K.Setting.dumps
    (λ steps ring. noted ring (put_note steps ring c.args.offer))
    (record { ring = g.R.ReceiveRing.seen c.self.inside.ring; reader = c.self.inside.reader; stuck = c.self.inside.stuck })
    c.args.self.now (g.R.ReceiveRing.seen c.put.new.self) c.self.invariant c.self.view_is)
