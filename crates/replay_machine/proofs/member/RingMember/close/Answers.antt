use Rattle.std.proofs.Common.{◌∙◌, ap, length, refl, sym}
use Rattle.ring_model.specs.Rings.{Ring, noted}
use Rattle.ring_model.specs.declared.notes.Note.TheVariants.{Finished}
use Rattle.tp_layout.specs.Requests.{numbers_of}
use Rattle.tp_layout.specs.declared.requests.RingRequest.{RingRequest}
use Rattle.replay_machine.proofs.MemberSteps.{closed_report, closing_read, few_closed, may_be}
use Rattle.replay_machine.proofs.ReadBlocks.{all_read, few_read, free_hand, next_read, none_read}
use Rattle.replay_machine.proofs.member.RingMember.close.Goals as goal

pub close-requires : goal.close-requires
close-requires g c =
    record {
      may = may_be g.R.ReceiveRing.may g.R.Unit.Layout.taken_in g.R.ReceiveRing.reads g.R.ReceiveRing.steps
          g.K.Setting.shape g.K.Setting.dumps
          (record {
            ring = g.R.ReceiveRing.seen c.self.inside.ring;
            reader = c.self.inside.reader;
            stuck = c.self.inside.stuck;
          })
          c.self.invariant;
    }

pub waiting-init : goal.waiting-init
waiting-init g c =
    closing_read g.R.ReceiveRing.may g.R.Unit.Layout.taken_in g.R.ReceiveRing.reads g.R.ReceiveRing.steps g.K.Setting.shape
    g.K.Setting.dumps g.met.R.ReceiveRing.reads_grow
    (record {
      ring = g.R.ReceiveRing.seen c.self.inside.ring;
      reader = c.self.inside.reader;
      stuck = c.self.inside.stuck;
    }) c.args.self
    _ _ c.self.invariant c.if-self.false c.self.view_is c.in_ok-waiting.ensures

pub take_over-requires-clause-kind : goal.take_over-requires-clause-kind
take_over-requires-clause-kind g c =
    c.waiting.invariant.kind_is ∙ ap (λ (shape : RingRequest). numbers_of shape) (sym c.waiting.invariant.shape_is)

pub take_over-requires-clause-hand : goal.take_over-requires-clause-hand
take_over-requires-clause-hand g c =
    free_hand g.R.Unit.Layout.taken_in g.K.Setting.shape g.K.Setting.dumps
    (g.R.ReceiveRing.reads g.K.Setting.shape (noted c.args.self Finished).notes)
    c.waiting.waiting c.waiting.reader c.waiting.invariant

pub take_over-requires-clause-few : goal.take_over-requires-clause-few
take_over-requires-clause-few g c =
    few_read g.R.Unit.Layout.taken_in g.K.Setting.shape g.K.Setting.dumps
    (g.R.ReceiveRing.reads g.K.Setting.shape (noted c.args.self Finished).notes)
    c.waiting.waiting c.waiting.reader c.waiting.invariant
    (few_closed g.R.ReceiveRing.may g.R.Unit.Layout.taken_in g.R.ReceiveRing.reads g.R.ReceiveRing.steps g.K.Setting.shape
    g.K.Setting.dumps g.met.R.ReceiveRing.reads_few
    (record { ring = g.R.ReceiveRing.seen c.self.inside.ring; reader = c.self.inside.reader; stuck = c.self.inside.stuck })
    c.args.self c.self.invariant c.self.view_is)

pub waiting-smaller : goal.waiting-smaller
waiting-smaller g c =
    let one = next_read g.R.Unit.Layout.taken_in g.K.Setting.shape g.K.Setting.dumps
    (g.R.ReceiveRing.reads g.K.Setting.shape (noted c.args.self Finished).notes)
    c.waiting.waiting c.take_over.new.ring c.waiting.reader c.take_over.new.self c.waiting.invariant
    (c.in_ok-take_over.ensures.read c.if-branch.true) c.take_over.ensures.hand in
    one.fewer

pub waiting-preserved : goal.waiting-preserved
waiting-preserved g c =
    let one = next_read g.R.Unit.Layout.taken_in g.K.Setting.shape g.K.Setting.dumps
    (g.R.ReceiveRing.reads g.K.Setting.shape (noted c.args.self Finished).notes)
    c.waiting.waiting c.take_over.new.ring c.waiting.reader c.take_over.new.self c.waiting.invariant
    (c.in_ok-take_over.ensures.read c.if-branch.true) c.take_over.ensures.hand in
    one.has

pub returns : goal.returns
returns g c =
    let none = none_read g.R.Unit.Layout.taken_in g.K.Setting.shape g.K.Setting.dumps
    (g.R.ReceiveRing.reads g.K.Setting.shape (noted c.args.self Finished).notes)
    c.waiting.waiting c.take_over.new.ring c.waiting.reader c.take_over.new.self c.waiting.invariant
    (c.in_ok-take_over.ensures.stays c.if-branch.false) (c.in_ok-take_over.ensures.same c.if-branch.false)
    (c.in_ok-take_over.ensures.waiting c.if-branch.false (length c.waiting.waiting.shown) refl) in
    closed_report g.R.Unit.Layout.text_of g.R.ReceiveRing.reads g.K.Setting.shape g.K.Setting.dumps _ _ c.take_over.new.self
    c.outputs-outputs.result c.args.self
    c.in_ok-waiting.ensures.notes_are (ap (λ (ring : Ring). ring.notes) c.self.view_is) none.has.shape_is none.has.asked_is
    (all_read g.R.Unit.Layout.taken_in g.K.Setting.shape g.K.Setting.dumps
    (g.R.ReceiveRing.reads g.K.Setting.shape (noted c.args.self Finished).notes)
    c.waiting.waiting c.take_over.new.ring c.take_over.new.self none)
    c.outputs-outputs.ensures
