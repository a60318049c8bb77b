use Rattle.std.proofs.Common.{◌≡◌, ◌+◌, ◌<◌, ◌++◌, length}
use Rattle.std.specs.List.{AllByRecursion}
use Rattle.ticket_dealer.specs.Seats.{IsAt, RisesIn, all_drawn}
use Rattle.ticket_dealer.proofs.closed_dealers.gather.Given as goal

abbrev pub invariant-loop-other : goal.invariant-loop-other
invariant-loop-other l = record {
  table : l.all.table_id ≡ l.shared.table_id;
  some : 0 < l.all.me.0.shares;
  shares : length l.seats.items + l.all.me.0.shares ≡ length l.fn.seats.items;
  drawn : all_drawn l.seats.items ++ l.all.me.0.drawn ≡ all_drawn l.fn.seats.items;
  own : AllByRecursion (IsAt l.shared.table_id) l.seats.items;
  rising : AllByRecursion RisesIn l.seats.items → AllByRecursion RisesIn l.fn.seats.items;
}

abbrev pub decreases-loop-other : goal.decreases-loop-other
decreases-loop-other l = goal.left-loop-other l
