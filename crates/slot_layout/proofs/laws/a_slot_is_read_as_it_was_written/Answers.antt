use Rattle.slot_layout.proofs.SlotTold.{slot_told}
use Rattle.slot_layout.proofs.laws.a_slot_is_read_as_it_was_written.Goals as goal

pub returns : goal.returns
returns c = slot_told
