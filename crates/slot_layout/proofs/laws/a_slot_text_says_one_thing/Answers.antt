use Rattle.slot_layout.proofs.SlotPasses.{one_slot_text}
use Rattle.slot_layout.proofs.laws.a_slot_text_says_one_thing.Goals as goal

pub returns : goal.returns
returns c = one_slot_text
