use Rattle.std.proofs.Common.{Some}
use Rattle.std.specs.Prelude.{◌≡◌, ◌≢◌}
use Rattle.capture_file.specs.declared.cpu_end.CpuEnd.TheVariants.{Fault}
use Rattle.cpu_feed.specs.CpuFeeds.{FailsFed, HasRead, Waits, unread}
use Rattle.cpu_feed.proofs.feed.CpuFeed.read_on.Given as goal

abbrev pub invariant-reading : goal.invariant-reading
invariant-reading g l = record {
  read : HasRead l.initial.self l.self;
  waits : Waits l.initial.self → l.self ≡ l.initial.self;
  failed : l.initial.self.ended ≢ Some Fault → FailsFed l.self;
}

abbrev pub decreases-reading : goal.decreases-reading
decreases-reading g l = unread l.self
