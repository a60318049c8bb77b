use Rattle.std.proofs.Common.{◌≡◌}
use Rattle.turn_lock.specs.Steps.{HasLooked}
use Rattle.turn_lock.proofs.turns.wait_turn.Given as goal

abbrev pub invariant-loop : goal.invariant-loop
invariant-loop g l = record {
  can : (goal.iterator-loop g).can_next l.iterator';
  ends : (goal.iterator-loop g).is_finite l.iterator';
  table : l.seat.table_id ≡ l.initial.seat.table_id;
  me : HasLooked l.initial.seat.me l.seat.me;
}
