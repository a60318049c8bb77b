use Rattle.std.proofs.Common.{◌≡◌, ◌++◌, [], length}
use Rattle.std.specs.Prelude.{map, replicate}
use Rattle.std.specs.List.{AllByRecursion}
use Rattle.cpu_feeders.specs.inside.MemberSeats.{with_all}
use Rattle.cpu_feeders.proofs.ended_workers.gather.Given as goal

abbrev pub invariant-loop-feeder : goal.invariant-loop-feeder
invariant-loop-feeder g l = record {
  cpus : l.left.cpus.items ++ map (λ feeder. feeder.feed) l.feeder-iterator.rest.items
      ≡ map (λ feeder. feeder.feed) l.fn.feeders.items;
  seats : l.left.seats.items ++ map (λ feeder. feeder.seat) l.feeder-iterator.rest.items
      ≡ map (λ feeder. feeder.seat) l.fn.feeders.items;
  count : length l.left.member_seats.items ≡ l.members;
  as_many : AllByRecursion (λ feeder. length feeder.member_seats.items ≡ l.members) l.feeder-iterator.rest.items;
  member_seats : with_all l.left.member_seats.items (map (λ feeder. feeder.member_seats.items) l.feeder-iterator.rest.items)
      ≡ with_all (replicate l.members []) (map (λ feeder. feeder.member_seats.items) l.fn.feeders.items);
}
