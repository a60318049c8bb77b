use Rattle.std.proofs.Common.{◌≡◌}
use Rattle.ring_model.specs.Rings.{noted}
use Rattle.ring_model.specs.declared.notes.Note.TheVariants.{Counted}
use Rattle.replay_machine.specs.inside.Members.{Parts}
use Rattle.replay_machine.proofs.MemberSteps.{came_to, either, in_ok, may_be, noted_member, stays_member}
use Rattle.replay_machine.proofs.member.RingMember.take_stats.Goals as goal

pub take_stats-requires : goal.take_stats-requires
take_stats-requires g c =
    record {
      may = may_be g.R.ReceiveRing.may g.R.Unit.Layout.taken_in g.R.ReceiveRing.reads g.R.ReceiveRing.steps
          g.K.Setting.shape g.K.Setting.dumps
          (record {
            ring = g.R.ReceiveRing.seen c.self.inside.ring;
            reader = c.self.inside.reader;
            stuck = c.self.inside.stuck;
          })
          c.self.invariant;
    }

pub invariant_of-self : goal.invariant_of-self
invariant_of-self g c =
    let before : Parts = record {
      ring = g.R.ReceiveRing.seen c.self.inside.ring;
      reader = c.self.inside.reader;
      stuck = c.self.inside.stuck;
    } in
    let after = g.R.ReceiveRing.seen c.take_stats.new.self in
    either c.take_stats.result _ (after ≡ before.ring) _ c.take_stats.ensures.ok c.take_stats.ensures.err
    (noted_member g.R.ReceiveRing.may g.R.Unit.Layout.taken_in g.R.ReceiveRing.reads g.R.ReceiveRing.steps g.K.Setting.shape
    g.K.Setting.dumps g.met.R.ReceiveRing.reads_grow
    before c.args.self.now after Counted c.self.invariant c.self.view_is c.requires.few)
    (stays_member g.R.ReceiveRing.may g.R.Unit.Layout.taken_in g.R.ReceiveRing.reads g.R.ReceiveRing.steps g.K.Setting.shape
    g.K.Setting.dumps before after c.self.invariant)

pub returns : goal.returns
returns g c =
    in_ok c.take_stats.result _ _ c.take_stats.ensures.ok
    (came_to g.R.ReceiveRing.may g.R.Unit.Layout.taken_in g.R.ReceiveRing.reads g.R.ReceiveRing.steps g.K.Setting.shape
    g.K.Setting.dumps
    (λ steps ring. noted ring Counted)
    (record { ring = g.R.ReceiveRing.seen c.self.inside.ring; reader = c.self.inside.reader; stuck = c.self.inside.stuck })
    c.args.self.now (g.R.ReceiveRing.seen c.take_stats.new.self) c.self.invariant c.self.view_is)
