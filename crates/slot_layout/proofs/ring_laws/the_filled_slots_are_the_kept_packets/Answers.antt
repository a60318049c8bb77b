use Rattle.slot_layout.specs.SlotSteps.{first_slot_state}
use Rattle.slot_layout.proofs.Kept.{kept_from}
use Rattle.slot_layout.proofs.ring_laws.the_filled_slots_are_the_kept_packets.Goals as goal

pub returns : goal.returns
returns c notes = kept_from first_slot_state notes
