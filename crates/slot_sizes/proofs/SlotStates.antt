-- The state of a ring of slots after one note more.
use Rattle.std.proofs.Common.{◌≡◌, ℕ, ◌+◌, List, [], ◌∷◌, ◌++◌, length, refl, arith}
use Rattle.std.proofs.lemmas.List.{length-append}
use Rattle.ring_model.specs.declared.notes.Note.{Note}
use Rattle.ring_model.specs.declared.notes.Offer.{Offer}
use Rattle.slot_layout.specs.SlotSteps.{SlotState, slot_after, slot_after_all, slot_state_of, first_slot_state}

after_push : (s : SlotState) (notes : List Note) (note : Note)
    → slot_after_all s (notes ++ note ∷ []) ≡ slot_after (slot_after_all s notes) note
after_push s [] note = refl
after_push s (first ∷ notes) note = after_push (slot_after s first) notes note

pub state_push : (notes : List Note) (note : Note)
    → slot_state_of (notes ++ note ∷ []) ≡ slot_after (slot_state_of notes) note
state_push notes note = after_push first_slot_state notes note

pub one_longer : (done : List (Offer × ℕ)) (slot : Offer × ℕ) → length (done ++ slot ∷ []) ≡ length done + 1
one_longer done slot = let e = length-append done (slot ∷ []) in omega (arith, e)
