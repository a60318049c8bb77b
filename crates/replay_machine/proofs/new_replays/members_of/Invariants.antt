use Rattle.std.proofs.Common.{◌≡◌}
use Rattle.std.specs.Prelude.{replicate}
use Rattle.ring_model.specs.Rings.{fresh}
use Rattle.replay_machine.proofs.new_replays.members_of.Given as goal

abbrev pub invariant-loop-member : goal.invariant-loop-member
invariant-loop-member g l = l.all.items ≡ replicate l._member (fresh (g.R.ReceiveRing.steps g.K.Setting.shape).size)
