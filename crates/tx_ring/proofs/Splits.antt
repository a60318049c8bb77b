-- The result of requests is that of those that a send takes, and then that of those that it leaves.
use Rattle.std.proofs.Common.{◌≡◌, ℕ, ◌+◌, Bool, false, true, ◌⊎◌, List, [], ◌∷◌, ◌++◌, length, drop, refl, inl}
use Rattle.std.proofs.Common.{arith}
use Rattle.std.specs.Prelude.{if◌then◌else◌}
use Rattle.std.proofs.Math.Seq.{drop-length}
use Rattle.frame_view.specs.declared.frames.Packet.{Packet}
use Rattle.tx_ring.specs.KeptSlots.{BeginsBad}
use Rattle.tx_ring.specs.Sends.{bad_in, good_front, is_good, packets_of}
use Rattle.tx_ring.specs.Slots.{Request}

-- what a send takes of requests, and what it leaves
abbrev pub taken_in : ℕ → Bool → List Request → List Request
taken_in room skip requests = if skip then requests else good_front room requests

abbrev pub after_good : ℕ → List Request → List Request
after_good room [] = []
after_good room (request ∷ requests) = if is_good room request then after_good room requests else request ∷ requests

abbrev pub left_in : ℕ → Bool → List Request → List Request
left_in room skip requests = if skip then [] else after_good room requests

-- the packets that are sent of requests, the number of those that are skipped, and whether one
-- stops the ring
abbrev pub sent_by : ℕ → Bool → List Request → List Packet
sent_by room skip requests = packets_of room (taken_in room skip requests)

abbrev pub over_by : ℕ → Bool → List Request → ℕ
over_by room skip requests = bad_in room (taken_in room skip requests)

abbrev pub has_bad : ℕ → List Request → Bool
has_bad room [] = false
has_bad room (request ∷ requests) = if is_good room request then has_bad room requests else true

abbrev pub stops_by : ℕ → Bool → List Request → Bool
stops_by room skip requests = if skip then false else has_bad room requests

-- no good request is skipped
pub bad_in_good : (room : ℕ) (requests : List Request) → bad_in room (good_front room requests) ≡ 0
bad_in_good room [] = refl
bad_in_good room (request ∷ requests) =
    grind (arith, bad_in_good room requests)

-- what a send leaves after what it takes
pub dropped_good : (room : ℕ) (requests : List Request)
    → drop (length (good_front room requests)) requests ≡ after_good room requests
dropped_good room [] = refl
dropped_good room (request ∷ requests) =
    grind (arith, dropped_good room requests)

pub left_is : (room : ℕ) (skip : Bool) (requests : List Request)
    → drop (length (taken_in room skip requests)) requests ≡ left_in room skip requests
left_is room true requests = drop-length requests
left_is room false requests = dropped_good room requests

pub packets_append : (room : ℕ) (xs ys : List Request) → packets_of room (xs ++ ys) ≡ packets_of room xs ++ packets_of room ys
packets_append room [] ys = refl
packets_append room (x ∷ xs) ys =
    grind (arith, packets_append room xs ys)

pub bad_append : (room : ℕ) (xs ys : List Request) → bad_in room (xs ++ ys) ≡ bad_in room xs + bad_in room ys
bad_append room [] ys = omega arith
bad_append room (x ∷ xs) ys =
    grind (arith, bad_append room xs ys)

-- the packets sent for requests are those of the ones that are taken, and then those of the rest
pub sent_good : (room : ℕ) (requests more : List Request)
    → packets_of room (good_front room (requests ++ more)) ≡ packets_of room (good_front room requests)
    ++ packets_of room (good_front room (after_good room requests ++ more))
sent_good room [] more = refl
sent_good room (request ∷ requests) more =
    grind (arith, sent_good room requests more)

pub sent_split : (room : ℕ) (skip : Bool) (requests more : List Request)
    → sent_by room skip (requests ++ more) ≡ sent_by room skip requests
    ++ sent_by room skip (left_in room skip requests ++ more)
sent_split room true requests more = packets_append room requests more
sent_split room false requests more = sent_good room requests more

pub over_split : (room : ℕ) (skip : Bool) (requests more : List Request)
    → over_by room skip (requests ++ more) ≡ over_by room skip requests + over_by room skip (left_in room skip requests ++ more)
over_split room true requests more = bad_append room requests more
over_split room false requests more =
    rw (
      bad_in_good room (requests ++ more),
      bad_in_good room requests,
      bad_in_good room (after_good room requests ++ more),
    ) refl

pub stops_good : (room : ℕ) (requests more : List Request)
    → has_bad room (requests ++ more) ≡ has_bad room (after_good room requests ++ more)
stops_good room [] more = refl
stops_good room (request ∷ requests) more =
    grind (arith, stops_good room requests more)

pub stops_split : (room : ℕ) (skip : Bool) (requests more : List Request)
    → stops_by room skip (requests ++ more) ≡ stops_by room skip (left_in room skip requests ++ more)
stops_split room true requests more = refl
stops_split room false requests more = stops_good room requests more

-- what a send leaves begins with a bad request, if there is any
pub left_bad : (room : ℕ) (requests : List Request)
    → (after_good room requests ≡ []) ⊎ BeginsBad room (after_good room requests)
left_bad room [] = inl refl
left_bad room (request ∷ requests) =
    grind (arith, left_bad room requests)

-- if requests begin with a bad one that isn't skipped, none is sent, whatever follows
pub bad_sends_none : (room : ℕ) (requests more : List Request) → BeginsBad room requests
    → sent_by room false (requests ++ more) ≡ []
bad_sends_none room [] more bad = absurd bad
bad_sends_none room (request ∷ requests) more bad = rw bad refl

pub bad_stops : (room : ℕ) (requests more : List Request) → BeginsBad room requests → has_bad room (requests ++ more) ≡ true
bad_stops room [] more bad = absurd bad
bad_stops room (request ∷ requests) more bad = rw bad refl
