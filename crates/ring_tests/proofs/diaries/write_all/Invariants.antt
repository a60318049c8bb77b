use Rattle.std.proofs.Common.{◌≡◌}
use Rattle.turn_lock.specs.Seats.{IsIdleSeatOf}
use Rattle.ring_tests.proofs.diaries.write_all.Given as goal

abbrev pub invariant-loop-text : goal.invariant-loop-text
invariant-loop-text g l = record {
  own : IsIdleSeatOf l.lock l.seat;
  number : l.number ≡ l.seat.number;
  entered : l.seat.entered ≡ l.text;
}
