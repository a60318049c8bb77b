-- What one note more does to the state of a ring, and that no happening changes its size.
use Rattle.std.proofs.Common.{◌≡◌, ◌+◌, Bool, true, false, cond, List, [], ◌∷◌, ◌++◌, length, refl, ◌∙◌}
use Rattle.std.specs.Prelude.{nat_lt}
use Rattle.ring_events.specs.Happenings.{all_happened, happened}
use Rattle.ring_events.specs.declared.events.Happening.{Happening}
use Rattle.ring_events.specs.declared.events.Happening.TheVariants.{Put, Try, Tick, Read, ReadAll, Count}
use Rattle.ring_model.specs.Ring.{Size, State, after, after_all, first_state}
use Rattle.ring_model.specs.Rings.{Ring, noted, state}
use Rattle.ring_model.specs.declared.notes.Note.{Note}

after_all-push : (size : Size) (s : State) (notes : List Note) (note : Note)
    → after_all size s (notes ++ note ∷ []) ≡ after size (after_all size s notes) note
after_all-push size s [] note = refl
after_all-push size s (first ∷ notes) note = after_all-push size (after size s first) notes note

pub state-noted : (ring : Ring) (note : Note) → state (noted ring note) ≡ after ring.size (state ring) note
state-noted ring note = after_all-push ring.size (first_state ring.size) ring.notes note

read_size : (ring : Ring) (later : Bool) → (cond later (record ring { released = ring.released + 1 }) ring).size ≡ ring.size
read_size ring true = refl
read_size ring false = refl

pub happened_size : (happening : Happening) (ring : Ring) → (happened happening ring).size ≡ ring.size
happened_size (Put offer) ring = refl
happened_size (Try offer) ring = refl
happened_size (Tick ms) ring = refl
happened_size Read ring = read_size ring (nat_lt ring.released (length (state ring).done))
happened_size ReadAll ring = refl
happened_size Count ring = refl

pub all_size : (happenings : List Happening) (ring : Ring) → (all_happened happenings ring).size ≡ ring.size
all_size [] ring = refl
all_size (happening ∷ happenings) ring = all_size happenings (happened happening ring) ∙ happened_size happening ring

pub all_append : (first more : List Happening) (ring : Ring)
    → all_happened (first ++ more) ring ≡ all_happened more (all_happened first ring)
all_append [] more ring = refl
all_append (happening ∷ first) more ring = all_append first more (happened happening ring)
