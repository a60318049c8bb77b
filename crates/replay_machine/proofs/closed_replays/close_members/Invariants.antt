use Rattle.std.proofs.Common.{◌≡◌, ◌++◌}
use Rattle.std.specs.Prelude.{map}
use Rattle.receive_ring.specs.Replay.{finished_ring}
use Rattle.replay_machine.specs.Reported.{reported_by}
use Rattle.replay_machine.proofs.closed_replays.close_members.Given as goal

abbrev pub invariant-loop-member : goal.invariant-loop-member
invariant-loop-member g l =
    l.reports.items ++ map (reported_by g.R.Unit.Layout.text_of g.R.ReceiveRing.reads g.K.Setting.shape g.K.Setting.dumps)
    (map finished_ring l.member-iterator.rest.items)
    ≡ map (reported_by g.R.Unit.Layout.text_of g.R.ReceiveRing.reads g.K.Setting.shape g.K.Setting.dumps)
    (map finished_ring l.fn.members.items)
