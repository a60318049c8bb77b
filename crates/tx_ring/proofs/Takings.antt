-- Requests that are taken from the start: their result, and what a bad one leaves after it.
use Rattle.std.proofs.Common.{◌≡◌, ℕ, ◌+◌, ◌<◌, Bool, false, true, List, [], ◌∷◌, ◌++◌, length, drop, Option, None, Some}
use Rattle.std.proofs.Common.{IfSome, refl, ap, subst, arith}
use Rattle.std.specs.Prelude.{if◌then◌else◌}
use Rattle.std.proofs.lemmas.List.{append-nil}
use Rattle.tx_ring.specs.KeptSlots.{BeginsBad}
use Rattle.tx_ring.specs.Sends.{bad_in, front_of, good_front, is_good, packet_of, packets_of}
use Rattle.tx_ring.specs.Slots.{Request}
use Rattle.tx_ring.proofs.Splits.{bad_append, packets_append}

-- requests that are all good
abbrev pub AllGood : ℕ → List Request → Type 0
AllGood room [] = Unit {0}
AllGood room (request ∷ requests) = (is_good room request ≡ true) × AllGood room requests

pub good_append : (room : ℕ) (done : List Request) (request : Request) → AllGood room done → is_good room request ≡ true
    → AllGood room (done ++ request ∷ [])
good_append room [] request all good = (good, tt)
good_append room (first ∷ done) request all good = (all.0, good_append room done request all.1 good)

pub packets_good : (room : ℕ) (done : List Request) (request : Request) → is_good room request ≡ true
    → packets_of room (done ++ request ∷ []) ≡ packets_of room done ++ packet_of request ∷ []
packets_good room done request good = rw (packets_append room done (request ∷ []), good) refl

pub packets_bad : (room : ℕ) (done : List Request) (request : Request) → is_good room request ≡ false
    → packets_of room (done ++ request ∷ []) ≡ packets_of room done
packets_bad room done request bad = rw (packets_append room done (request ∷ []), bad) (append-nil (packets_of room done))

pub bad_good : (room : ℕ) (done : List Request) (request : Request) → is_good room request ≡ true
    → bad_in room (done ++ request ∷ []) ≡ bad_in room done
bad_good room done request good = rw (bad_append room done (request ∷ []), good) (omega arith)

pub bad_bad : (room : ℕ) (done : List Request) (request : Request) → is_good room request ≡ false
    → bad_in room (done ++ request ∷ []) ≡ bad_in room done + 1
bad_bad room done request bad = rw (bad_append room done (request ∷ []), bad) (omega arith)

-- a non-empty list of requests is the first one and the rest
pub first_and_rest : (requests : List Request) → 0 < length requests → requests ≡ front_of requests ∷ drop 1 requests
first_and_rest [] some = absurd (omega arith)
first_and_rest (request ∷ requests) some = refl

-- of requests that are all good, all are taken
pub good_all : (room : ℕ) (done : List Request) → AllGood room done → good_front room done ≡ done
good_all room [] all = refl
good_all room (request ∷ done) all = rw (all.0, good_all room done all.1) refl

-- those that are all good come before those that are left
pub good_before : (room : ℕ) (done left : List Request) → AllGood room done
    → good_front room (done ++ left) ≡ done ++ good_front room left
good_before room [] left all = refl
good_before room (request ∷ done) left all = rw (all.0, good_before room done left all.1) refl

-- what a send takes of a ring after it took some already
pub taken_of : (skip : Bool) (room : ℕ) (done left : List Request) → (skip ≡ false → AllGood room done)
    → (if skip then done ++ left else good_front room (done ++ left)) ≡ done ++ (if skip then left else good_front room left)
taken_of true room done left may = refl
taken_of false room done left may = good_before room done left (may refl)

-- no request is left, so a send takes none of what is left
pub none_left : (skip : Bool) (room : ℕ) (left : List Request) → left ≡ [] → (if skip then left else good_front room left) ≡ []
none_left true room left none = none
none_left false room left none = ap (good_front room) none

-- a send that reached a bad request that isn't skipped took all that it takes
pub bad_first : (room : ℕ) (requests : List Request) → is_good room (front_of requests) ≡ false → good_front room requests ≡ []
bad_first room [] bad = refl
bad_first room (request ∷ requests) bad = rw bad refl

-- a send that reached a good request takes that too
pub good_more : (skip : Bool) (room : ℕ) (requests : List Request) → 0 < length requests
    → is_good room (front_of requests) ≡ true
    → 0 < length (if skip then requests else good_front room requests)
good_more skip room [] some good = absurd (omega arith)
good_more true room (request ∷ requests) some good = omega arith
good_more false room (request ∷ requests) some good = rw good (omega arith)

-- each request was counted once
pub each_counted : (room : ℕ) (requests : List Request)
    → length (packets_of room requests) + bad_in room requests ≡ length requests
each_counted room [] = refl
each_counted room (request ∷ requests) =
    grind (arith, each_counted room requests)

pub begun_bad : (room : ℕ) (requests : List Request) → BeginsBad room requests
    → (0 < length requests) × (good_front room requests ≡ [])
begun_bad room [] bad = absurd bad
begun_bad room (request ∷ requests) bad = (omega arith, rw bad refl)

pub at_some : {X : Type 0} (P : X → Type 0) (o : Option X) (x : X) → IfSome o P → o ≡ Some x → P x
at_some P None x p is = cc
at_some P (Some y) x p is = let same : y ≡ x = cc in subst P same p
