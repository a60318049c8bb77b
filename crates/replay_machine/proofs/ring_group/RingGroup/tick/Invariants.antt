use Rattle.std.proofs.Common.{◌≡◌, ◌++◌, length, take, drop}
use Rattle.std.specs.Prelude.{map}
use Rattle.run_reports.specs.RingSteps.{ticked}
use Rattle.replay_machine.proofs.ring_group.RingGroup.tick.Given as goal

abbrev pub invariant-loop-member : goal.invariant-loop-member
invariant-loop-member g l =
    let rings = l.initial.self-inside.members.items in
    record {
      ticket : l.self-inside.ticket ≡ l.initial.self-inside.ticket;
      count : length l.self-inside.members.items ≡ length l.initial.self-inside.members.items;
      rings : l.self-inside.members.items ≡ map (ticked (g.R.ReceiveRing.steps g.K.Setting.shape) l.ms)
          (take l.member rings) ++ drop l.member rings;
    }
