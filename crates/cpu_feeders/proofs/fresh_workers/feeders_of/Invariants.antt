use Rattle.std.proofs.Common.{◌≡◌, ◌+◌, ◌++◌, length, false}
use Rattle.std.specs.Prelude.{map, option_map}
use Rattle.std.specs.List.{AllByRecursion}
use Rattle.cpu_feeders.specs.Feeds.{IsFreshSeat}
use Rattle.cpu_feeders.specs.inside.FreshWorkers.{first_feeds}
use Rattle.tap_outside.specs.Seen.{SourceSeen}
use Rattle.ticket_dealer.specs.Seats.{DealerValue}
use Rattle.cpu_feeders.proofs.fresh_workers.feeders_of.Given as goal

abbrev pub invariant-loop-source : goal.invariant-loop-source
invariant-loop-source g l =
    let seen = option_map {T = g.row.S.Denot} {U = SourceSeen} g.S.Source.seen in
    record {
      count : length l.feeders.items + length l.source-iterator.rest.items ≡ length l.fn.sources.items;
      users : length l.users.items ≡ length l.source-iterator.rest.items;
      left : length l.seats.items ≡ length l.source-iterator.rest.items;
      feeds : map (λ feeder. feeder.feed) l.feeders.items
          ++ first_feeds l.plan (length l.feeders.items) (map seen l.source-iterator.rest.items)
          ≡ first_feeds l.plan 0 (map seen l.fn.sources.items);
      member_seats : map (λ feeder. feeder.member_seats.items) l.feeders.items ++ l.users.items ≡ l.fn.users.items;
      full : AllByRecursion (λ feeder. feeder.full ≡ false) l.feeders.items;
      seats : (dealer : DealerValue) → AllByRecursion (IsFreshSeat dealer) l.fn.seats.items
          → AllByRecursion (IsFreshSeat dealer) l.seats.items
          × AllByRecursion (λ feeder. IsFreshSeat dealer feeder.seat) l.feeders.items;
    }
