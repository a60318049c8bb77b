use Rattle.std.proofs.Common.{length}
use Rattle.ring_model.specs.Rings.{noted}
use Rattle.ring_model.specs.declared.notes.Note.TheVariants.{Finished}
use Rattle.replay_machine.specs.inside.Members.{HasRead}
use Rattle.replay_machine.proofs.member.RingMember.close.Given as goal

abbrev pub invariant-waiting : goal.invariant-waiting
invariant-waiting g l =
    HasRead g.R.Unit.Layout.taken_in g.K.Setting.shape g.K.Setting.dumps
    (g.R.ReceiveRing.reads g.K.Setting.shape (noted l.fn.self Finished).notes) l.waiting l.reader

abbrev pub decreases-waiting : goal.decreases-waiting
decreases-waiting g l = length l.waiting.shown
