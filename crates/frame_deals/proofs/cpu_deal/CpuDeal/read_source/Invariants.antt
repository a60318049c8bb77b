use Rattle.std.proofs.Common.{◌≡◌}
use Rattle.frame_deals.specs.FileReadings.{IsFileSoFar, unread}
use Rattle.frame_deals.proofs.cpu_deal.CpuDeal.read_source.Given as goal

abbrev pub invariant-reading : goal.invariant-reading
invariant-reading g l = record {
  before : l.before ≡ l.fn.self.arrivals;
  so_far : IsFileSoFar l.rules (g.S.Source.seen l.fn.source) (g.S.Source.seen l.source) l.fn.self l.self l.so_far;
}

abbrev pub decreases-reading : goal.decreases-reading
decreases-reading g l = unread l.so_far
