use Rattle.slot_layout.specs.SlotSteps.{first_slot_state}
use Rattle.slot_layout.proofs.Drops.{none_dropped}
use Rattle.slot_layout.proofs.ring_laws.a_ring_with_slots_left_drops_nothing.Goals as goal

pub returns : goal.returns
returns c = λ slots notes run few. none_dropped slots first_slot_state notes run few
