use Rattle.std.proofs.Common.{◌-◌}
use Rattle.cpu_feed.specs.CpuFeeds.{IsSameCpu}
use Rattle.cpu_feeders.specs.inside.FeedSteps.{Goes, IsDrawing}
use Rattle.cpu_feeders.specs.inside.TurnGroups.{IsSameGroup}
use Rattle.cpu_feeders.proofs.feeder.feed_all.Given as goal

abbrev pub invariant-feeding : goal.invariant-feeding
invariant-feeding g l = record {
  cpu : IsSameCpu l.initial.feed l.feed;
  group : IsSameGroup l.initial.group l.group;
  goes : Goes l.job l.group.members.now l.feed l.group.member_seats.now.items l.group.seat.now;
  drawing : IsDrawing l.initial.group.dealer.now l.group.seat.now;
}

abbrev pub decreases-feeding : goal.decreases-feeding
decreases-feeding g l = 2097151 - l.feed.fed
