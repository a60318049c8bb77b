-- A ring of slots that hands no packet back and drops none found no slot held.
use Rattle.std.proofs.Common.{◌≡◌, ℕ, List, [], ◌∷◌, length, None, refl}
use Rattle.std.specs.List.{AllByRecursion}
use Rattle.ring_laws.specs.Freezes.{IsNoRefusal}
use Rattle.ring_model.specs.Fates.{drops_of}
use Rattle.ring_model.specs.Unreleased.{held_number}
use Rattle.ring_model.specs.declared.notes.Note.{Note}
use Rattle.ring_model.specs.declared.notes.Note.TheVariants.{Kept, Refused, Dropped, Ticked, Counted, Finished}
use Rattle.slot_layout.specs.SlotSteps.{IsSlotRun, SlotState, slot_after}

pub none_held : (slots : ℕ) (s : SlotState) (notes : List Note) → IsSlotRun slots s notes → AllByRecursion IsNoRefusal notes
    → length (drops_of notes) ≡ 0 → AllByRecursion (λ note. held_number note ≡ None) notes
none_held slots s [] run none zero = tt
none_held slots s (Kept offer found ∷ notes) run none zero =
    (refl, none_held slots (slot_after s (Kept offer found)) notes run.2 none.1 zero)
none_held slots s (Refused cpu index need number ∷ notes) run none zero = absurd none.0
none_held slots s (Dropped cpu index need number ∷ notes) run none zero = cc
none_held slots s (Ticked ms found ∷ notes) run none zero = absurd run.0
none_held slots s (Counted ∷ notes) run none zero = (refl, none_held slots (slot_after s Counted) notes run.2 none.1 zero)
none_held slots s (Finished ∷ notes) run none zero = (refl, none_held slots s notes run.2 none.1 zero)
