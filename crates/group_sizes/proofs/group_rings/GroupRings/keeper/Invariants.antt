use Rattle.std.proofs.Common.{◌≡◌, ◌<◌}
use Rattle.group_sizes.specs.Groups.{keeper_from, keeper_of}
use Rattle.group_sizes.proofs.group_rings.GroupRings.keeper.Given as goal

abbrev pub invariant-loop-left : goal.invariant-loop-left
invariant-loop-left l = record {
  inside : l.member < l.self.members;
  same : keeper_from l.self l.need l.courses l.home l.left l.member ≡ keeper_of l.self l.need l.courses l.home;
}

abbrev pub decreases-loop-left : goal.decreases-loop-left
decreases-loop-left l = l.left
