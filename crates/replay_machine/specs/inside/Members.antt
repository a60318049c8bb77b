-- A receive ring with its reader: what its fields keep.
use Rattle.std.specs.Prelude.{◌≡◌, ℕ, ◌^◌, ◌≤◌, Bool, false, List, length, take, None}
use Rattle.reader_walk.specs.Readers.{ReaderValue}
use Rattle.receive_ring.specs.Rings.{Receiving, Waits}
use Rattle.ring_model.specs.declared.notes.Note.{Note}
use Rattle.ring_words.specs.PlainRings.{PlainState}
use Rattle.tp_layout.specs.Layouts.{Taken}
use Rattle.tp_layout.specs.Requests.{numbers_of}
use Rattle.tp_layout.specs.declared.requests.RingRequest.{RingRequest}

-- a reader at the end of a ring that handed this over: it read all that was released, and has none
-- in hand
pub record HasRead (taken_in : RingRequest → List ℕ → Taken) (shape : RingRequest) (asked : Bool)
    (handed : List Taken) (end : PlainState) (reader : ReaderValue) : Type 0 where
  pub shape_is : reader.shape ≡ shape
  pub asked_is : reader.dumps ≡ asked
  pub kind_is : end.kind ≡ numbers_of shape
  pub waits : Waits (taken_in shape) handed end
  pub none_held : reader.held ≡ None
  pub none_in_hand : end.taken ≡ end.released
  pub taken_is : reader.taken ≡ take end.released handed

-- the fields of a member
pub record Parts : Type 0 where
  pub ring : Receiving
  pub reader : ReaderValue
  pub stuck : Bool

-- what they keep
pub record IsMember (may : RingRequest → Type 0) (taken_in : RingRequest → List ℕ → Taken)
    (reads : RingRequest → List Note → List Taken) (shape : RingRequest) (asked : Bool)
    (member : Parts) : Type 0 where
  pub shape_is : member.ring.shape ≡ shape
  pub may_be : may shape
  pub few : length member.ring.notes ≤ 2 ^ 39
  pub read : member.stuck ≡ false
      → HasRead taken_in shape asked (reads shape member.ring.notes) member.ring.end member.reader
