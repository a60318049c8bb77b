-- What is read from a slot, and the text of that.
use Rattle.std.specs.Prelude.{ℕ, List, [], ◌∷◌}
use Rattle.frame_view.specs.declared.frames.Packet.{Packet}
use Rattle.slot_layout.specs.SlotTexts.{slot_packet_at, slot_text}
use Rattle.tp_layout.specs.Layouts.{Taken}
use Rattle.tp_layout.specs.Rows.{number_at}
use Rattle.tp_layout.specs.declared.requests.RingRequest.{RingRequest}

-- a slot of this status and packet, as a reader has it
abbrev pub slot_taken : ℕ → Packet → Taken
slot_taken status packet = record { number = 0; status = status; packets = packet ∷ [] }

-- what is read from a slot that begins with a text
abbrev pub slot_taken_in : RingRequest → List ℕ → Taken
slot_taken_in shape bytes = slot_taken (number_at 4 0 bytes) (slot_packet_at bytes)

-- the text of a slot with these packets, exactly one
abbrev pub slot_text_with : ℕ → List Packet → List ℕ
slot_text_with status [] = []
slot_text_with status (packet ∷ more) = slot_text status packet

-- the text of a slot that was read
abbrev pub text_of_slot : RingRequest → Taken → List ℕ
text_of_slot shape slot = slot_text_with slot.status slot.packets
