-- What one note more does to the state of a ring.
use Rattle.std.proofs.Common.{◌≡◌, List, [], ◌∷◌, ◌++◌, refl}
use Rattle.ring_model.specs.Ring.{Size, State, after, after_all, first_state}
use Rattle.ring_model.specs.Rings.{Ring, state, noted}
use Rattle.ring_model.specs.declared.notes.Note.{Note}

after_all-push : (size : Size) (s : State) (notes : List Note) (note : Note)
    → after_all size s (notes ++ note ∷ []) ≡ after size (after_all size s notes) note
after_all-push size s [] note = refl
after_all-push size s (first ∷ notes) note = after_all-push size (after size s first) notes note

pub state-noted : (ring : Ring) (note : Note) → state (noted ring note) ≡ after ring.size (state ring) note
state-noted ring note = after_all-push ring.size (first_state ring.size) ring.notes note
