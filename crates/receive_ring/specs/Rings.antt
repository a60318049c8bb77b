-- A receive ring on one thread, of whatever layout, in plain data.
use Rattle.std.specs.Prelude.{◌≡◌, ℕ, ◌%◌, ◌<◌, ◌≤◌, List, [], ◌∷◌, ◌++◌, length, drop, map}
use Rattle.run_reports.specs.RingSteps.{RingSteps, put_note, try_note}
use Rattle.ring_model.specs.Rings.{Ring}
use Rattle.ring_model.specs.declared.notes.Note.{Note}
use Rattle.ring_model.specs.declared.notes.Note.TheVariants.{Finished}
use Rattle.ring_model.specs.declared.notes.Offer.{Offer}
use Rattle.ring_words.specs.PlainRings.{PlainState, Stays, Took}
use Rattle.tp_layout.specs.Layouts.{Taken}
use Rattle.tp_layout.specs.Requests.{numbers_of}
use Rattle.tp_layout.specs.declared.requests.RingRequest.{RingRequest}

pub record Receiving : Type 0 where
  -- the shape of its blocks or slots
  pub shape : RingRequest
  -- what happened so far
  pub notes : List Note
  -- who has which block or slot
  pub end : PlainState

-- what reports see of it, where such rings do these steps
abbrev pub ring_by : RingSteps → Receiving → Ring
ring_by steps it = record { size = steps.size; notes = it.notes; released = it.end.released }

-- the same, where this is what rings of a shape do
abbrev pub ring_in : (RingRequest → RingSteps) → Receiving → Ring
ring_in steps it = ring_by (steps it.shape) it

-- the note of an offer that it keeps or drops
abbrev pub note_of_put : (RingRequest → RingSteps) → Receiving → Offer → Note
note_of_put steps it offer = put_note (steps it.shape) (ring_in steps it) offer

-- the note of an offer that it keeps or hands back
abbrev pub note_of_try : (RingRequest → RingSteps) → Receiving → Offer → Note
note_of_try steps it offer = try_note (steps it.shape) (ring_in steps it) offer

-- the room to which offers are cut: the bytes of a block that are for packets
pub record IsRoomOf (steps : RingSteps) (room : ℕ) : Type 0 where
  pub room_is : room ≡ steps.size.room
  pub some : 82 < room
  pub even : room % 8 ≡ 0

-- what waits for the reader reads as what it hasn't taken of all that was handed over; `taken_in`
-- is what is read of bytes
pub record Waits (taken_in : List ℕ → Taken) (handed : List Taken) (end : PlainState)
    : Type 0 where
  pub front : end.taken ≤ length handed
  pub rest : map (λ entry. taken_in entry.0) end.shown ≡ drop end.taken handed

-- the same of a ring
abbrev pub WaitsIn : (RingRequest → List ℕ → Taken) → (RingRequest → List Note → List Taken)
    → Receiving → Type 0
WaitsIn taken_in reads it = Waits (taken_in it.shape) (reads it.shape it.notes) it.end

-- a new ring
pub record Opens (taken_in : RingRequest → List ℕ → Taken)
    (reads : RingRequest → List Note → List Taken) (shape : RingRequest) (it : Receiving)
    : Type 0 where
  pub shape_is : it.shape ≡ shape
  pub none_noted : it.notes ≡ []
  pub kind_is : it.end.kind ≡ numbers_of shape
  pub none_taken : it.end.taken ≡ 0
  pub none_released : it.end.released ≡ 0
  pub waits : WaitsIn taken_in reads it

-- a call made this ring of it, and its reader's side stays
pub record Becomes (taken_in : RingRequest → List ℕ → Taken)
    (reads : RingRequest → List Note → List Taken) (steps : RingRequest → RingSteps)
    (ring : Ring) (before after : Receiving) : Type 0 where
  pub shape_is : after.shape ≡ before.shape
  pub ring_is : ring_in steps after ≡ ring
  pub kind_is : after.end.kind ≡ before.end.kind
  pub taken_is : after.end.taken ≡ before.end.taken
  pub waits : WaitsIn taken_in reads before → WaitsIn taken_in reads after

-- it is closed: its reader's end and its notes
pub record Closes (taken_in : RingRequest → List ℕ → Taken)
    (reads : RingRequest → List Note → List Taken) (before : Receiving) (end : PlainState)
    (notes : List Note) : Type 0 where
  pub notes_are : notes ≡ before.notes ++ Finished ∷ []
  pub kind_is : end.kind ≡ before.end.kind
  pub taken_is : end.taken ≡ before.end.taken
  pub released_is : end.released ≡ before.end.released
  pub waits : Waits (taken_in before.shape) (reads before.shape notes) end

-- its reader took a block or a slot of this content
pub record TookOne (before after : Receiving) (content : List ℕ) : Type 0 where
  pub end : Took before.end after.end content
  pub rest : after ≡ record before { end = after.end }

-- its reader found nothing to take
pub record StaysThere (before after : Receiving) : Type 0 where
  pub end : Stays before.end after.end
  pub rest : after ≡ record before { end = after.end }

-- some more were handed over, or none
pub record Grows (before now : List Taken) : Type 0 where
  pub more : List Taken
  pub is : now ≡ before ++ more
