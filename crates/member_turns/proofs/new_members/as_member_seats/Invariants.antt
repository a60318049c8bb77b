use Rattle.std.proofs.Common.{◌≡◌, ◌++◌}
use Rattle.member_turns.proofs.new_members.as_member_seats.Given as goal

abbrev pub invariant-loop-seat : goal.invariant-loop-seat
invariant-loop-seat l = l.member_seats.items ++ l.seat-iterator.rest.items ≡ l.fn.seats.items
