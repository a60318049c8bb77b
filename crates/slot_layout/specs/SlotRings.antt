-- A ring of slots with its reader, as far as reports need it: the record of a ring of blocks, with
-- a slot in a block's place. Its size has the number of slots as `blocks`. The time-out has no
-- meaning.
use Rattle.std.specs.Prelude.{ℕ, ◌+◌}
use Rattle.ring_model.specs.Rings.{Ring}
use Rattle.ring_model.specs.declared.notes.Offer.{Offer}
use Rattle.ring_model.specs.declared.notes.Note.{Note}
use Rattle.slot_layout.specs.SlotSteps.{SlotState, slot_state_of}
use Rattle.slot_layout.specs.SlotReleases.{slot_put_note, slot_try_note}

-- the room of a block that would keep as much of a packet as a slot of this many bytes: a packet's
-- data follow 66 bytes in a slot and 82 in a block
abbrev pub room_of_slots : ℕ → ℕ
room_of_slots slot_size = slot_size + 16

-- the state that the notes leave
abbrev pub slot_state : Ring → SlotState
slot_state ring = slot_state_of ring.notes

-- the note that a put and a try make
abbrev pub slot_note_of_put : Ring → Offer → Note
slot_note_of_put ring offer = slot_put_note ring.size.blocks ring.released (slot_state ring) offer

abbrev pub slot_note_of_try : Ring → Offer → Note
slot_note_of_try ring offer = slot_try_note ring.size.blocks ring.released (slot_state ring) offer
