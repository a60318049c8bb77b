use Rattle.std.proofs.Common.{◌≡◌, take}
use Rattle.ticket_dealer.specs.Seats.{IsSeatOf}
use Rattle.ring_tests.proofs.tickets.draw_into.Given as goal

abbrev pub invariant-loop-k : goal.invariant-loop-k
invariant-loop-k l = record {
  own : IsSeatOf l.dealer l.seat;
  drawn : l.seat.drawn ≡ take l.k l.into;
}
