-- Filled slots only grow in number, and a drop needs as many of them as the ring has slots.
use Rattle.std.proofs.Common.{◌≡◌, ℕ, ◌+◌, ◌<◌, ◌≤◌, List, [], ◌∷◌, length, refl, arith, length-append}
use Rattle.ring_model.specs.Fates.{drops_of}
use Rattle.ring_model.specs.declared.notes.Note.{Note}
use Rattle.ring_model.specs.declared.notes.Note.TheVariants.{Kept, Refused, Dropped, Ticked, Counted, Finished}
use Rattle.slot_layout.specs.SlotSteps.{IsSlotRun, SlotState, slot_after, slot_after_all, slot_status}

slots_grow : (state : SlotState) (note : Note) → length state.done ≤ length (slot_after state note).done
slots_grow state (Kept offer found) = omega (arith, length-append state.done ((offer, slot_status state offer) ∷ []))
slots_grow state (Refused cpu index need number) = omega arith
slots_grow state (Dropped cpu index need number) = omega arith
slots_grow state (Ticked ms found) = omega arith
slots_grow state Counted = omega arith
slots_grow state Finished = omega arith

all_slots_grow : (state : SlotState) (notes : List Note) → length state.done ≤ length (slot_after_all state notes).done
all_slots_grow state [] = omega arith
all_slots_grow state (note ∷ notes) = omega (arith, slots_grow state note, all_slots_grow (slot_after state note) notes)

pub none_dropped : (slots : ℕ) (state : SlotState) (notes : List Note) → IsSlotRun slots state notes
    → length (slot_after_all state notes).done < slots → drops_of notes ≡ []
none_dropped slots state [] run few = refl
none_dropped slots state (Kept offer found ∷ notes) run few =
    none_dropped slots (slot_after state (Kept offer found)) notes run.2 few
none_dropped slots state (Refused cpu index need number ∷ notes) run few = none_dropped slots state notes run.2 few
none_dropped slots state (Dropped cpu index need number ∷ notes) run few =
    absurd (omega (arith, run.0.0, run.0.1, all_slots_grow (slot_after state (Dropped cpu index need number)) notes))
none_dropped slots state (Ticked ms found ∷ notes) run few = absurd run.0
none_dropped slots state (Counted ∷ notes) run few = none_dropped slots (slot_after state Counted) notes run.2 few
none_dropped slots state (Finished ∷ notes) run few = none_dropped slots state notes run.2 few
