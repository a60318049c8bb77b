use Rattle.std.proofs.Common.{◌≡◌, ◌+◌, ◌++◌, length, false}
use Rattle.std.specs.Prelude.{map}
use Rattle.std.specs.List.{AllByRecursion}
use Rattle.cpu_feeders.specs.inside.FreshWorkers.{AreNumbered}
use Rattle.ticket_dealer.specs.Seats.{DealerValue, IsFreshOf}
use Rattle.cpu_feeders.proofs.fresh_workers.walkers_of.Given as goal

abbrev pub invariant-loop-taker : goal.invariant-loop-taker
invariant-loop-taker g l = record {
  left : length l.walkers.items + length l.taker-iterator.rest.items ≡ length l.fn.takers.items;
  ends_left : length l.ends.items ≡ length l.taker-iterator.rest.items;
  count : length l.walkers.items + length l.seats.items ≡ length l.fn.seats.items;
  takers : map (λ walker. walker.taker) l.walkers.items ++ l.taker-iterator.rest.items ≡ l.fn.takers.items;
  ends : map (λ walker. walker.end) l.walkers.items ++ l.ends.items ≡ l.fn.ends.items;
  members : AreNumbered 0 l.walkers.items;
  fresh : AllByRecursion (λ walker. (walker.released ≡ 0) × (walker.full ≡ false)) l.walkers.items;
  seats : (dealer : DealerValue) → AllByRecursion (IsFreshOf dealer) l.fn.seats.items
      → AllByRecursion (IsFreshOf dealer) l.seats.items
      × AllByRecursion (λ walker. IsFreshOf dealer walker.seat) l.walkers.items;
}
