use Rattle.std.proofs.Common.{◌≡◌, ◌+◌, ◌-◌, [], Some}
use Rattle.turn_lock.specs.SeatKnowledge.{seated}
use Rattle.turn_lock.specs.Seats.{fresh_seats}
use Rattle.turn_lock.specs.SeatsInside.{lock_of}
use Rattle.turn_lock.proofs.new_locks.make_others.Given as goal

abbrev pub invariant-loop : goal.invariant-loop
invariant-loop g l = let lock = lock_of g.V.Kept.base g.V.Kept.stored l.shared.table_id l.shared.key in record {
  table : l.first.table_id ≡ l.initial.first.table_id;
  first : l.first.me ≡ (seated (Some lock.base) lock.first 0 (l.count - l.counter) (l.counter + 1), []);
  seats : l.seats.items ≡ fresh_seats lock 1 l.counter;
}
