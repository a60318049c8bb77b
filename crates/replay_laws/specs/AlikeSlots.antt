-- Two rings of slots that go on alike, though their numbers of slots differ.
use Rattle.std.specs.Prelude.{◌≡◌, ℕ, List, ◌++◌, length, map, nat_lt}
use Rattle.ring_laws.specs.Alike.{AreBlocks, AreLikeNotes, Gap}
use Rattle.ring_model.specs.Rings.{Ring}
use Rattle.ring_model.specs.declared.notes.Note.{Note}
use Rattle.ring_model.specs.declared.notes.Offer.{Offer}
use Rattle.slot_layout.specs.SlotRings.{slot_state}
use Rattle.slot_layout.specs.SlotSteps.{SlotState}

-- a frame has the same tag under either name
abbrev pub KeepsTags : Gap → Type 0
KeepsTags gap = (offer : Offer) → (gap.offer offer).frame.tag ≡ offer.frame.tag

-- a filled slot under the other names
abbrev pub renamed_slot : Gap → Offer × ℕ → Offer × ℕ
renamed_slot gap slot = (gap.offer slot.0, slot.1)

-- two states that are the same as far as what follows goes: of filled slots only their number
-- matters, and whether packets were dropped since the statistics were last taken
pub record IsLikeSlotState (gap : Gap) (one other : SlotState) : Type 0 where
  pub done : AreBlocks gap (length one.done) (length other.done)
  pub losing : nat_lt 0 other.dropped ≡ nat_lt 0 one.dropped

-- two rings of as many slots with such states; as many filled slots aren't released
pub record IsLikeSlotRing (gap : Gap) (one other : Ring) : Type 0 where
  pub slots : other.size.blocks ≡ one.size.blocks
  pub states : IsLikeSlotState gap (slot_state one) (slot_state other)
  pub released : AreBlocks gap one.released other.released

-- what both rings did since: the same notes, and the same slots filled, with their packets and
-- status
pub record SlotsWentOnAlike (gap : Gap) (one other one_later other_later : Ring) : Type 0 where
  pub notes : List Note
  pub other_notes : List Note
  pub notes_are : one_later.notes ≡ one.notes ++ notes
  pub other_notes_are : other_later.notes ≡ other.notes ++ other_notes
  pub same_notes : AreLikeNotes gap notes other_notes
  pub slots : List (Offer × ℕ)
  pub slots_are : (slot_state one_later).done ≡ (slot_state one).done ++ slots
  pub other_slots_are :
      (slot_state other_later).done ≡ (slot_state other).done ++ map (renamed_slot gap) slots
  -- and they are alike again
  pub rings : IsLikeSlotRing gap one_later other_later
