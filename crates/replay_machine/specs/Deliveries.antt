-- How the tries of one offer change the rings of a group.
use Rattle.std.specs.Prelude.{◌≡◌, ◌⊎◌, ◌<◌, List, [], ◌∷◌, length, slice_index_or}
use Rattle.fanout_group.specs.declared.logs.Try.{Try}
use Rattle.receive_ring.specs.Replay.{fate_of, no_ring, noted_at}
use Rattle.run_reports.specs.RingSteps.{RingSteps, put_note, try_note}
use Rattle.ring_model.specs.Rings.{Ring}
use Rattle.ring_model.specs.declared.notes.Note.{Note}
use Rattle.ring_model.specs.declared.notes.Offer.{Offer}

-- the note is that of a try of the offer at a ring, or of a put
abbrev pub IsNoteOf : RingSteps → Offer → Ring → Note → Type 0
IsNoteOf steps offer ring note =
    (note ≡ try_note steps ring offer) ⊎ (note ≡ put_note steps ring offer)

-- one try has its note at its member, and all else stays
pub record IsTried (steps : RingSteps) (offer : Offer) (t : Try) (old new : List Ring)
    : Type 0 where
  pub within : t.member < length old
  pub note : Note
  pub note_is : IsNoteOf steps offer (slice_index_or old t.member no_ring) note
  pub fate_is : t.fate ≡ fate_of note
  pub rings_are : new ≡ noted_at t.member note old

-- tries, one after another
abbrev pub AreTried : RingSteps → Offer → List Try → List Ring → List Ring → Type 0
AreTried steps offer [] old new = new ≡ old
AreTried steps offer (t ∷ tries) old new =
    (next : List Ring) × IsTried steps offer t old next × AreTried steps offer tries next new

-- the rings changed only by tries, of one offer or of none
abbrev pub ChangedByTries : RingSteps → List Ring → List Ring → Type 0
ChangedByTries steps old new =
    (new ≡ old) ⊎ ((offer : Offer) × (tries : List Try) × AreTried steps offer tries old new)
