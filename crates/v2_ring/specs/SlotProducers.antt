-- A ring of slots that frames are put into, as contracts see it.
use Rattle.std.specs.Prelude.{◌≡◌, ℕ, ◌+◌, ◌^◌, ◌<◌, ◌≤◌, List, [], ◌∷◌, ◌++◌, length, Some}
use Rattle.ring_model.specs.KnownReleases.{put_by, try_by}
use Rattle.ring_model.specs.Told.{CountsHeld, WasHeld, found_with, put_told, try_told}
use Rattle.ring_model.specs.declared.notes.Found.{Found}
use Rattle.ring_model.specs.declared.notes.Note.{Note}
use Rattle.ring_model.specs.declared.notes.Offer.{Offer}
use Rattle.ring_model.specs.declared.notes.Put.{Put}
use Rattle.ring_model.specs.declared.notes.Tried.{Tried}
use Rattle.ring_words.specs.Counts.{Rose}
use Rattle.ring_words.specs.Rings.{Feed}
use Rattle.slot_layout.specs.SlotReleases.{slot_look}
use Rattle.slot_layout.specs.SlotSteps.{IsOpenSlotRun, SlotMayFollow, SlotState, first_slot_state}
use Rattle.slot_layout.specs.SlotSteps.{slot_state_of}
use Rattle.tp_layout.specs.declared.requests.RingRequest.{RingRequest}
use Rattle.v2_ring.specs.SlotContents.{RepresentsSlots}
use Rattle.v2_ring.specs.SlotMachines.{IsSlotAt, KeepsSlotEnd}
use Rattle.v2_ring.specs.declared.machine.SlotMachine.{SlotMachine}

pub record SlotProducing (E : Type 0) : Type 0 where
  -- the shape of its slots
  pub shape : RingRequest
  -- what happened so far
  pub notes : List Note
  -- its end of the ring
  pub end : E

-- the state that its notes leave
abbrev pub slots_filled : {E : Type 0} → SlotProducing E → SlotState
slots_filled ring = slot_state_of ring.notes

-- a call added this note, which may follow; the end represents the texts of all filled slots
pub record SlotAdds {E : Type 0} (feed : E → Feed) (before after : SlotProducing E) (note : Note)
    : Type 0 where
  pub shape : after.shape ≡ before.shape
  pub notes : after.notes ≡ before.notes ++ note ∷ []
  pub may_follow : SlotMayFollow before.shape.frame_nr (slots_filled before) note
  pub texts : RepresentsSlots after.shape (slots_filled after).done (feed after.end)
  pub end : KeepsSlotEnd (feed before.end) (feed after.end)

-- what the one look of a call found. If the slot was still the reader's one more look is counted,
-- otherwise none; if the end reports how many slots were released, what is found is exact
pub record SlotLooks (slots : ℕ) (state : SlotState) (found : Found) (before after : Feed)
    : Type 0 where
  pub looked : WasHeld found (Rose before.holds after.holds)
  pub count : CountsHeld found before.holds after.holds
  pub number : after.found ≡ found_with found before.found
  pub exact : (released : ℕ) → before.freed ≡ Some released → found ≡ slot_look slots released state

-- a put found this, and dropped the packet if the slot was held
pub record SlotPuts {E : Type 0} (feed : E → Feed) (before after : SlotProducing E) (offer : Offer)
    (found : Found) (put : Put) : Type 0 where
  pub adds : SlotAdds feed before after (put_by offer found)
  pub told : put ≡ put_told (put_by offer found)
  pub looks :
      SlotLooks before.shape.frame_nr (slots_filled before) found (feed before.end) (feed after.end)

-- a try found this, and handed the packet back if the slot was held
pub record SlotTries {E : Type 0} (feed : E → Feed) (before after : SlotProducing E) (offer : Offer)
    (found : Found) (tried : Tried) : Type 0 where
  pub adds : SlotAdds feed before after (try_by offer found)
  pub told : tried ≡ try_told offer (try_by offer found)
  pub looks :
      SlotLooks before.shape.frame_nr (slots_filled before) found (feed before.end) (feed after.end)

-- what the fields of a ring keep
pub record SlotKeeps {E : Type 0} (feed : E → Feed) (machine : SlotMachine E) (notes : List Note)
    (room : ℕ) : Type 0 where
  pub at : IsSlotAt feed 0 (slot_state_of notes) machine
  pub run : IsOpenSlotRun machine.shape.frame_nr first_slot_state notes
  pub last : length notes < room
  pub few : machine.kept + machine.dropped ≤ 2 ^ 39
