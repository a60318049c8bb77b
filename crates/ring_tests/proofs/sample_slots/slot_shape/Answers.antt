use Rattle.std.proofs.Common.{◌∙◌, sym}
use Rattle.slot_layout.proofs.SlotBounds.{came_from_check}
use Rattle.ring_tests.proofs.sample_slots.slot_shape.Goals as goal

pub returns-in-Ok : goal.returns-in-Ok
returns-in-Ok c = came_from_check _ c.in-Ok.shape (sym c.in-Ok.is ∙ c.check_v2.ensures)
