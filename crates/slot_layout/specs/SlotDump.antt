-- The dump of the notes of a ring of slots: the texts of its filled slots, one after another.
use Rattle.std.specs.Prelude.{ℕ, false, List, flat_map}
use Rattle.ring_model.specs.Offers.{packet_of}
use Rattle.ring_model.specs.declared.notes.Note.{Note}
use Rattle.ring_model.specs.declared.notes.Offer.{Offer}
use Rattle.frame_view.specs.declared.frames.Packet.{Packet}
use Rattle.slot_layout.specs.SlotSteps.{slot_state_of}
use Rattle.slot_layout.specs.SlotTexts.{slot_text}

-- the packet that an offer becomes in a slot, which has no hash
abbrev pub slot_packet_of : Offer → Packet
slot_packet_of offer = packet_of false offer

-- the texts of filled slots
unfoldable pub slot_texts_of : List (Offer × ℕ) → List ℕ
slot_texts_of done = flat_map (λ slot. slot_text slot.1 (slot_packet_of slot.0)) done

-- the dump of a notes list
unfoldable pub slot_dump_of : List Note → List ℕ
slot_dump_of notes = slot_texts_of (slot_state_of notes).done
