-- A transmit ring between two calls, and how a place changes it.
use Rattle.std.specs.Prelude.{ℕ, zero, suc, ◌+◌, ◌-◌, ◌%◌, Bool, false, ◌||◌, ◌==◌, nat_lt}
use Rattle.std.specs.Prelude.{if◌then◌else◌, List, [], ◌∷◌, ◌++◌, length, Option, None, Some}
use Rattle.std.specs.Prelude.{Result, Ok, Err, is_ok}
use Rattle.tp_layout.specs.declared.requests.RingRequest.{RingRequest}
use Rattle.tx_ring.specs.Slots.{Request}
use Rattle.tx_ring.specs.declared.error.TxError.{TxError}
use Rattle.tx_ring.specs.declared.error.TxError.TheVariants.{TooLong, Stopped, Full}

-- the shape of the ring, whether bad slots are skipped, the number of slots that were placed so
-- far, the requests that weren't taken yet, and the slot where the ring stopped
pub record TxState : Type 0 where
  pub shape : RingRequest
  pub skip_bad : Bool
  pub placed : ℕ
  pub requests : List Request
  pub stopped : Option ℕ

-- a ring that nothing was placed in
abbrev pub new_ring : RingRequest → Bool → TxState
new_ring shape skip = record {
  shape = shape;
  skip_bad = skip;
  placed = 0;
  requests = [];
  stopped = None;
}

-- the number of bytes that fit after the header of a slot
abbrev pub room_of : RingRequest → ℕ
room_of shape = shape.frame_size - 48

-- a request for a frame of this length that begins with these bytes
abbrev pub request_of : ℕ → ℕ → List ℕ → Request
request_of next_offset asked bytes = record {
  next_offset = next_offset;
  length = asked;
  bytes = bytes;
}

-- a request for a frame of just these bytes
abbrev pub whole_request : List ℕ → Request
whole_request bytes = request_of 0 (length bytes) bytes

-- the slot of the request that was placed as number `number`, from 0
abbrev pub slot_of : RingRequest → ℕ → ℕ
slot_of shape number = number % shape.frame_nr

-- the slot of the first request that wasn't taken yet
abbrev pub front_slot : TxState → ℕ
front_slot ring = slot_of ring.shape (ring.placed - length ring.requests)

-- the answer by whether a slot is free
abbrev pub if_free : TxState → Result (Unit {0}) TxError
if_free ring = if length ring.requests == ring.shape.frame_nr then Err Full else Ok tt

-- the answer of a ring that may have stopped
abbrev pub if_going : TxState → Option ℕ → Result (Unit {0}) TxError
if_going ring (Some slot) = Err (Stopped slot)
if_going ring None = if_free ring

-- the answer of a place of these bytes
abbrev pub place_answer : TxState → List ℕ → Result (Unit {0}) TxError
place_answer ring bytes =
    if nat_lt (room_of ring.shape) (length bytes) then Err TooLong else if_going ring ring.stopped

-- the ring with one more request
abbrev pub with_request : TxState → Request → TxState
with_request ring request =
    record ring { placed = ring.placed + 1; requests = ring.requests ++ request ∷ [] }

-- the ring after a place
abbrev pub after_place : TxState → Request → TxState
after_place ring request =
    if is_ok (place_answer ring request.bytes) then with_request ring request else ring

-- whether a place is the slot of one of n numbers from `from` on
abbrev pub is_among : ℕ → ℕ → ℕ → ℕ → Bool
is_among places at from zero = false
is_among places at from (suc count) = (from % places == at) || is_among places at (from + 1) count

-- the status of a slot: WRONG_FORMAT (4) where the ring stopped, otherwise SEND_REQUEST (1) if it
-- is requested, otherwise AVAILABLE (0)
abbrev pub status_by : Option ℕ → Bool → ℕ → ℕ
status_by None requested at = if requested then 1 else 0
status_by (Some stop) requested at = if stop == at then 4 else (if requested then 1 else 0)

-- the status of a slot of a ring
abbrev pub status_of : TxState → ℕ → ℕ
status_of ring at =
    let count = length ring.requests in
    status_by ring.stopped (is_among ring.shape.frame_nr at (ring.placed - count) count) at

-- the reported status of slot n
abbrev pub status_at : TxState → ℕ → Option ℕ
status_at ring at = if nat_lt at ring.shape.frame_nr then Some (status_of ring at) else None
