-- What the slots of a transmit ring keep of its state.
use Rattle.std.specs.Prelude.{◌≡◌, ℕ, zero, suc, ◌+◌, ◌-◌, ◌%◌, ◌<◌, ◌≤◌, Bool, false, List, []}
use Rattle.std.specs.Prelude.{◌∷◌, length, Option, IfSome}
use Rattle.tp_layout.specs.declared.requests.RingRequest.{RingRequest}
use Rattle.tx_ring.specs.Rings.{TxState, is_among, room_of, slot_of, status_by}
use Rattle.tx_ring.specs.Sends.{is_good}
use Rattle.tx_ring.specs.Slots.{Request, SlotState, slot_at}

-- what n slots of a ring with `places` slots ask for, from number `from` on
abbrev pub requests_in : ℕ → List SlotState → ℕ → ℕ → List Request
requests_in places slots from zero = []
requests_in places slots from (suc count) =
    (slot_at slots (from % places)).request ∷ requests_in places slots (from + 1) count

-- the state of a ring with these slots, after `taken` of its requests were taken
abbrev pub state_in : RingRequest → Bool → List SlotState → ℕ → ℕ → Option ℕ → TxState
state_in shape skip slots placed taken stopped = record {
  shape = shape;
  skip_bad = skip;
  placed = placed;
  requests = requests_in shape.frame_nr slots taken (placed - taken);
  stopped = stopped;
}

-- the first of requests is a bad one
abbrev pub BeginsBad : ℕ → List Request → Type 0
BeginsBad room [] = ⊥
BeginsBad room (request ∷ requests) = is_good room request ≡ false

-- where a ring stopped, the first request that wasn't taken is bad, and bad ones aren't skipped
pub record HasStopped (ring : TxState) (taken slot : ℕ) : Type 0 where
  pub front : slot ≡ slot_of ring.shape taken
  pub bad : BeginsBad (room_of ring.shape) ring.requests
  pub stays : ring.skip_bad ≡ false

-- what the fields of a ring keep, after `taken` of its requests were taken
pub record Keeps (ring : TxState) (slots : List SlotState) (taken : ℕ) : Type 0 where
  pub places : length slots ≡ ring.shape.frame_nr
  pub some : 0 < ring.shape.frame_nr
  pub least : 68 ≤ ring.shape.frame_size
  pub order : taken ≤ ring.placed
  pub few : ring.placed ≤ taken + ring.shape.frame_nr
  pub sizes : (at : ℕ) → at < length slots → (slot_at slots at).size ≡ ring.shape.frame_size
  pub marks : (at : ℕ) → at < length slots
      → (slot_at slots at).status
      ≡ status_by ring.stopped (is_among ring.shape.frame_nr at taken (ring.placed - taken)) at
  pub stop : IfSome ring.stopped (HasStopped ring taken)
