-- The filled slots are those of the kept packets.
use Rattle.std.proofs.Common.{◌≡◌, ℕ, List, [], ◌∷◌, ◌++◌, map, refl, sym, ap, ◌∙◌, append_assoc}
use Rattle.std.proofs.lemmas.List.{append-nil}
use Rattle.ring_model.specs.Fates.{kept_of}
use Rattle.ring_model.specs.declared.notes.Note.{Note}
use Rattle.ring_model.specs.declared.notes.Note.TheVariants.{Kept, Refused, Dropped, Ticked, Counted, Finished}
use Rattle.ring_model.specs.declared.notes.Offer.{Offer}
use Rattle.slot_layout.specs.SlotSteps.{SlotState, slot_after, slot_after_all, slot_status}

-- the packets of filled slots
abbrev pub offers_in : List (Offer × ℕ) → List Offer
offers_in done = map (λ slot. slot.0) done

offers_push : (done : List (Offer × ℕ)) (offer : Offer) (status : ℕ)
    → offers_in (done ++ (offer, status) ∷ []) ≡ offers_in done ++ offer ∷ []
offers_push [] offer status = refl
offers_push (slot ∷ done) offer status = ap (λ (offers : List Offer). slot.0 ∷ offers) (offers_push done offer status)

pub kept_from : (s : SlotState) (notes : List Note)
    → offers_in (slot_after_all s notes).done ≡ offers_in s.done ++ kept_of notes
kept_from s [] = sym (append-nil (offers_in s.done))
kept_from s (Kept offer found ∷ notes) =
    kept_from (slot_after s (Kept offer found)) notes
    ∙ ap (λ (offers : List Offer). offers ++ kept_of notes) (offers_push s.done offer (slot_status s offer))
    ∙ append_assoc (offers_in s.done) (offer ∷ []) (kept_of notes)
kept_from s (Refused cpu index need number ∷ notes) = kept_from s notes
kept_from s (Dropped cpu index need number ∷ notes) = kept_from (slot_after s (Dropped cpu index need number)) notes
kept_from s (Ticked ms found ∷ notes) = kept_from s notes
kept_from s (Counted ∷ notes) = kept_from (slot_after s Counted) notes
kept_from s (Finished ∷ notes) = kept_from s notes
