use Rattle.std.proofs.Common.{◌≡◌, ◌++◌}
use Rattle.member_turns.proofs.closed_members.as_seats.Given as goal

abbrev pub invariant-loop-member_seat : goal.invariant-loop-member_seat
invariant-loop-member_seat l = l.seats.items ++ l.member_seat-iterator.rest.items ≡ l.fn.member_seats.items
