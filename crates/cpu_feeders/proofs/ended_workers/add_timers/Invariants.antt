use Rattle.std.proofs.Common.{◌≡◌, length}
use Rattle.std.specs.Prelude.{map}
use Rattle.std.specs.List.{AllByRecursion}
use Rattle.cpu_feeders.specs.inside.MemberSeats.{with_all}
use Rattle.cpu_feeders.proofs.ended_workers.add_timers.Given as goal

abbrev pub invariant-loop-timer : goal.invariant-loop-timer
invariant-loop-timer l = record {
  count : length l.member_seats.items ≡ length l.fn.member_seats.items;
  as_many : AllByRecursion (λ timer. length timer.member_seats.items ≡ length l.fn.member_seats.items)
      l.timer-iterator.rest.items;
  member_seats : with_all l.member_seats.items (map (λ timer. timer.member_seats.items) l.timer-iterator.rest.items)
      ≡ with_all l.fn.member_seats.items (map (λ timer. timer.member_seats.items) l.fn.timers.items);
}
