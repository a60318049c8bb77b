use Rattle.std.proofs.Common.{◌≡◌, ◌++◌, List, length}
use Rattle.member_turns.specs.Seats.{Seat}
use Rattle.cpu_feeders.specs.inside.MemberSeats.{with_each}
use Rattle.cpu_feeders.proofs.member_seats.add_to_each.Given as goal

abbrev pub invariant-loop-member_seat : goal.invariant-loop-member_seat
invariant-loop-member_seat l = record {
  added : (done : List Seat) × (l.fn.member_seats.items ≡ done ++ l.member_seat-iterator.rest.items)
      × (length done ≡ l.at) × (l.lists.items ≡ with_each l.fn.lists.items done);
}
