-- The texts of a ring's filled slots.
use Rattle.std.specs.Prelude.{◌≡◌, ℕ, List, [], ◌∷◌}
use Rattle.ring_model.specs.declared.notes.Offer.{Offer}
use Rattle.ring_words.specs.Rings.{Entry, Feed, RepresentsBlocks}
use Rattle.slot_layout.specs.SlotDump.{slot_packet_of}
use Rattle.slot_layout.specs.SlotTexts.{SlotBegins}
use Rattle.tp_layout.specs.declared.requests.RingRequest.{RingRequest}

-- each content begins with the text of its slot, and has its status
abbrev pub AreSlotTexts : RingRequest → List Entry → List (Offer × ℕ) → Type 0
AreSlotTexts shape [] [] = Unit {0}
AreSlotTexts shape [] (slot ∷ done) = ⊥
AreSlotTexts shape (entry ∷ entries) [] = ⊥
AreSlotTexts shape (entry ∷ entries) (slot ∷ done) =
    SlotBegins shape slot.1 (slot_packet_of slot.0) entry.0
    × (entry.1 ≡ slot.1)
    × AreSlotTexts shape entries done

-- an end represents the texts of filled slots
abbrev pub RepresentsSlots : RingRequest → List (Offer × ℕ) → Feed → Type 0
RepresentsSlots shape done feed =
    (all : List Entry) × RepresentsBlocks feed all × AreSlotTexts shape all done
