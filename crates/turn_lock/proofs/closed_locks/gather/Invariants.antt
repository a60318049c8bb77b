use Rattle.std.proofs.Common.{◌≡◌, ◌++◌, map}
use Rattle.std.specs.List.{AllByRecursion}
use mathlib.Core.Option.{some}
use lib.ListN.{get_elem?}
use Rattle.turn_lock.specs.declared.knowledge.LockSeat.{LockSeat}
use Rattle.turn_lock.specs.declared.knowledge.SeatStage.TheVariants.{Idle}
use Rattle.turn_lock.specs.Seats.{IsIdleAt, place_of}
use Rattle.turn_lock.proofs.closed_locks.gather.Given as goal

abbrev pub invariant-loop-other : goal.invariant-loop-other
invariant-loop-other g l = record {
  table : l.all.table_id ≡ l.shared.table_id;
  places : map place_of l.seats.items ++ l.all.me.0.places ≡ map place_of l.fn.seats.items;
  first : (place : LockSeat _) × (get_elem? l.all.me.0.places 0 ≡ some place);
  stage : l.all.me.0.stage ≡ Idle;
  own : AllByRecursion (IsIdleAt l.shared.table_id) l.seats.items;
}

abbrev pub decreases-loop-other : goal.decreases-loop-other
decreases-loop-other g l = goal.left-loop-other g l
