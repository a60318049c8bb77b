use Rattle.std.proofs.Common.{◌≡◌}
use Rattle.group_tests.specs.Rooms.{IsDeskOf}
use Rattle.group_tests.proofs.deliveries.log_of.Given as goal

abbrev pub invariant-loop-index : goal.invariant-loop-index
invariant-loop-index l = record { shape : l.path.shape ≡ l.fn.plan; members : IsDeskOf l.path.shape.members l.desk.rooms.items }
