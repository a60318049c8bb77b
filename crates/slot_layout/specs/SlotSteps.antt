-- The ring of TPACKET_V2 as a machine of notes. A slot has one packet, and is handed over as soon
-- as it is filled: there is no open block, no timer and no freeze. Slot numbers count from 1.
use Rattle.std.specs.Prelude.{◌≡◌, ℕ, ◌+◌, ◌<◌, List, [], ◌∷◌, ◌++◌, length, Bool, nat_lt}
use Rattle.std.specs.Prelude.{if◌then◌else◌, Option, None, Some}
use Rattle.frame_view.specs.declared.frames.Tag.{Tag}
use Rattle.ring_model.specs.Ring.{EndsThere}
use Rattle.ring_model.specs.declared.notes.Offer.{Offer}
use Rattle.ring_model.specs.declared.notes.Found.TheVariants.{Free}
use Rattle.ring_model.specs.declared.notes.Note.{Note}
use Rattle.ring_model.specs.declared.notes.Note.TheVariants.{Kept, Refused, Dropped, Ticked}
use Rattle.ring_model.specs.declared.notes.Note.TheVariants.{Counted, Finished}

-- the state after notes
pub record SlotState : Type 0 where
  -- the filled slots in order, each with its packet's offer and its status; the slot of number s is
  -- the s-th
  pub done : List (Offer × ℕ)
  -- packets kept and dropped since the statistics were last taken
  pub kept : ℕ
  pub dropped : ℕ

-- the state before the first note
abbrev pub first_slot_state : SlotState
first_slot_state = record { done = []; kept = 0; dropped = 0 }

-- TP_STATUS_VLAN_VALID (16) and TP_STATUS_VLAN_TPID_VALID (64) with a tag
abbrev pub status_with_tag : Option Tag → ℕ
status_with_tag None = 0
status_with_tag (Some tag) = 80

-- the status of a filled slot: TP_STATUS_USER (1), TP_STATUS_LOSING (4) where packets were lost,
-- and that of its tag
abbrev pub status_of_slot : Bool → Option Tag → ℕ
status_of_slot losing tag = 1 + (if losing then 4 else 0) + status_with_tag tag

-- the status of the slot that gets this packet; packets were lost where some were dropped since the
-- statistics were last taken
abbrev pub slot_status : SlotState → Offer → ℕ
slot_status state offer = status_of_slot (nat_lt 0 state.dropped) offer.frame.tag

-- the state after a note
abbrev pub slot_after : SlotState → Note → SlotState
slot_after state (Kept offer found) =
    record state {
      done = state.done ++ (offer, slot_status state offer) ∷ [];
      kept = state.kept + 1;
    }
slot_after state (Dropped cpu index need number) = record state { dropped = state.dropped + 1 }
slot_after state Counted = record state { kept = 0; dropped = 0 }
slot_after state note = state

-- the state after notes
abbrev pub slot_after_all : SlotState → List Note → SlotState
slot_after_all state [] = state
slot_after_all state (note ∷ notes) = slot_after_all (slot_after state note) notes

-- the state of a ring of slots that has these notes
abbrev pub slot_state_of : List Note → SlotState
slot_state_of notes = slot_after_all first_slot_state notes

-- the number of the slot that the next packet would get
abbrev pub next_slot : SlotState → ℕ
next_slot state = length state.done + 1

-- with n slots, the slot whose place the next one takes has this number, and was filled
abbrev pub IsSlotHeld : ℕ → SlotState → ℕ → Type 0
IsSlotHeld slots state number = (0 < number) × (number + slots ≡ next_slot state)

-- a note may follow a state of a ring of n slots
abbrev pub SlotMayFollow : ℕ → SlotState → Note → Type 0
SlotMayFollow slots state (Kept offer Free) = Unit {0}
SlotMayFollow slots state (Kept offer found) = ⊥
SlotMayFollow slots state (Refused cpu index need number) = IsSlotHeld slots state number
SlotMayFollow slots state (Dropped cpu index need number) = IsSlotHeld slots state number
SlotMayFollow slots state (Ticked ms found) = ⊥
SlotMayFollow slots state Counted = Unit {0}
SlotMayFollow slots state Finished = Unit {0}

-- each note may follow those before it
abbrev pub IsSlotRun : ℕ → SlotState → List Note → Type 0
IsSlotRun slots state [] = Unit {0}
IsSlotRun slots state (note ∷ notes) =
    SlotMayFollow slots state note
    × EndsThere note notes
    × IsSlotRun slots (slot_after state note) notes

-- a note that doesn't close the ring
abbrev pub SlotGoesOn : Note → Type 0
SlotGoesOn Finished = ⊥
SlotGoesOn note = Unit {0}

-- each note may follow those before it, and none closes the ring
abbrev pub IsOpenSlotRun : ℕ → SlotState → List Note → Type 0
IsOpenSlotRun slots state [] = Unit {0}
IsOpenSlotRun slots state (note ∷ notes) =
    SlotMayFollow slots state note
    × SlotGoesOn note
    × IsOpenSlotRun slots (slot_after state note) notes

-- notes of a ring of n slots from its opening to its close
pub record IsWholeSlotRun (slots : ℕ) (notes : List Note) : Type 0 where
  pub run : IsSlotRun slots first_slot_state notes
  pub closed : (before : List Note) × (notes ≡ before ++ Finished ∷ [])
