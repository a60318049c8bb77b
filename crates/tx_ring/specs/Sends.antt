-- Which requests of a transmit ring a send takes, and what it makes of them.
use Rattle.std.specs.Prelude.{◌≡◌, ℕ, ◌+◌, ◌<◌, Bool, false, true, ◌&&◌, ◌==◌, nat_le}
use Rattle.std.specs.Prelude.{if◌then◌else◌, List, [], ◌∷◌, ◌++◌, length, take, drop, replicate}
use Rattle.std.specs.Prelude.{Some, Result, Ok, Err, ⊤}
use Rattle.frame_view.specs.PlainPacket.{plain_of}
use Rattle.frame_view.specs.declared.frames.Packet.{Packet}
use Rattle.tx_ring.specs.Rings.{TxState, front_slot, room_of}
use Rattle.tx_ring.specs.Slots.{Request, no_request}
use Rattle.tx_ring.specs.declared.error.SendError.{SendError}
use Rattle.tx_ring.specs.declared.error.SendError.TheVariants.{BadSlot, Memory}
use Rattle.tx_ring.specs.declared.ring.Sent.{Sent}

-- a request is good if it has no next frame, and a length from 14 to what fits after the header of
-- a slot
abbrev pub is_good : ℕ → Request → Bool
is_good room request =
    (request.next_offset == 0) && (nat_le 14 request.length && nat_le request.length room)

-- the frame of a request: as many bytes as it says, those that were given followed by zeros
abbrev pub frame_of : Request → List ℕ
frame_of request = take request.length (request.bytes ++ replicate request.length 0)

-- the packet of a request
abbrev pub packet_of : Request → Packet
packet_of request = plain_of (frame_of request)

-- the first of requests
abbrev pub front_of : List Request → Request
front_of [] = no_request
front_of (request ∷ requests) = request

-- the request at a place
abbrev pub request_at : ℕ → List Request → Request
request_at place requests = front_of (drop place requests)

-- the packets of the good ones among requests
abbrev pub packets_of : ℕ → List Request → List Packet
packets_of room [] = []
packets_of room (request ∷ requests) =
    if is_good room request then packet_of request ∷ packets_of room requests
    else packets_of room requests

-- the number of the bad ones among requests
abbrev pub bad_in : ℕ → List Request → ℕ
bad_in room [] = 0
bad_in room (request ∷ requests) =
    if is_good room request then bad_in room requests else bad_in room requests + 1

-- the good ones before the first bad one
abbrev pub good_front : ℕ → List Request → List Request
good_front room [] = []
good_front room (request ∷ requests) =
    if is_good room request then request ∷ good_front room requests else []

-- the requests that a send takes from the start: with `skip_bad` all, without it the good ones
-- before the first bad one
abbrev pub taken_by : TxState → List Request
taken_by ring =
    if ring.skip_bad then ring.requests else good_front (room_of ring.shape) ring.requests

-- the packets that a send appends
abbrev pub packets_sent : TxState → List Packet
packets_sent ring = packets_of (room_of ring.shape) (taken_by ring)

-- the ring after the first `count` of its requests were taken
abbrev pub after_taking : ℕ → TxState → TxState
after_taking count ring = record ring { requests = drop count ring.requests }

-- the ring after all possible requests were taken: it stops at the slot of a request that is left
abbrev pub stop_at_front : TxState → List Request → TxState
stop_at_front ring [] = ring
stop_at_front ring (request ∷ requests) = record ring { stopped = Some (front_slot ring) }

-- the ring after a send
abbrev pub after_send : TxState → TxState
after_send ring =
    let left = after_taking (length (taken_by ring)) ring in
    stop_at_front left left.requests

-- what a send counts
abbrev pub counts_of : TxState → Sent
counts_of ring = record {
  sent = length (packets_sent ring);
  skipped = bad_in (room_of ring.shape) (taken_by ring);
}

-- the answer of a send: what it counts, or the slot of a request that is left
abbrev pub answer_with : TxState → Sent → List Request → Result Sent SendError
answer_with left counts [] = Ok counts
answer_with left counts (request ∷ requests) = Err (BadSlot (front_slot left))

abbrev pub send_answer : TxState → Result Sent SendError
send_answer ring =
    let left = after_taking (length (taken_by ring)) ring in
    answer_with left (counts_of ring) left.requests

-- a fact about each answer except `Memory`
abbrev pub UnlessMemory : Result Sent SendError → Type 0 → Type 0
UnlessMemory (Ok sent) P = P
UnlessMemory (Err (BadSlot slot)) P = P
UnlessMemory (Err Memory) P = ⊤

-- a fact about `Memory`
abbrev pub OnMemory : Result Sent SendError → Type 0 → Type 0
OnMemory (Err Memory) P = P
OnMemory (Err (BadSlot slot)) P = ⊤
OnMemory (Ok sent) P = ⊤

-- the counts of a send with one more request that was sent or skipped
abbrev pub counted : Sent → Bool → Sent
counted counts true = record counts { sent = counts.sent + 1 }
counted counts false = record counts { skipped = counts.skipped + 1 }

-- the outcome for the first request of a ring: it was sent or skipped, the ring stopped there, or
-- memory ran out
abbrev pub FrontTaken :
    TxState → TxState → List Packet → List Packet → Result Bool SendError → Type 0
FrontTaken old new before after (Ok true) =
    (is_good (room_of old.shape) (front_of old.requests) ≡ true) × (new ≡ after_taking 1 old)
    × (after ≡ before ++ packet_of (front_of old.requests) ∷ [])
FrontTaken old new before after (Ok false) =
    (is_good (room_of old.shape) (front_of old.requests) ≡ false) × (old.skip_bad ≡ true)
    × (new ≡ after_taking 1 old) × (after ≡ before)
FrontTaken old new before after (Err (BadSlot slot)) =
    (is_good (room_of old.shape) (front_of old.requests) ≡ false)
    × (old.skip_bad ≡ false)
    × (slot ≡ front_slot old)
    × (new ≡ record old { stopped = Some slot }) × (after ≡ before)
FrontTaken old new before after (Err Memory) =
    (is_good (room_of old.shape) (front_of old.requests) ≡ true) × (new ≡ old) × (after ≡ before)

-- a send that was interrupted took `count` of the requests that it takes, and the next one is still
-- requested
pub record IsBrokenOff (count : ℕ) (old new : TxState) (before after : List Packet) : Type 0 where
  pub some_left : count < length (taken_by old)
  pub ring : new ≡ after_taking count old
  pub packets : after ≡ before ++ packets_of (room_of old.shape) (take count old.requests)
