-- What a ring of slots notes if its reader has released a known number of slots, so that each look
-- has one answer.
use Rattle.std.specs.Prelude.{ℕ, ◌-◌, nat_lt, if◌then◌else◌}
use Rattle.ring_model.specs.KnownReleases.{put_by, try_by}
use Rattle.ring_model.specs.declared.notes.Offer.{Offer}
use Rattle.ring_model.specs.declared.notes.Found.{Found}
use Rattle.ring_model.specs.declared.notes.Found.TheVariants.{Free, Held}
use Rattle.ring_model.specs.declared.notes.Note.{Note}
use Rattle.slot_layout.specs.SlotSteps.{SlotState, next_slot}

-- what the next slot's word says: with n slots, slot number s takes the place of s - n, which is
-- the reader's until it has released that many
abbrev pub slot_look : ℕ → ℕ → SlotState → Found
slot_look slots released state =
    if nat_lt released (next_slot state - slots) then Held (next_slot state - slots) else Free

-- the note of a packet that is dropped where the next slot is held
abbrev pub slot_put_note : ℕ → ℕ → SlotState → Offer → Note
slot_put_note slots released state offer = put_by offer (slot_look slots released state)

-- the note of a packet that is handed back there
abbrev pub slot_try_note : ℕ → ℕ → SlotState → Offer → Note
slot_try_note slots released state offer = try_by offer (slot_look slots released state)
