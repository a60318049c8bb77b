-- What a send leaves, and that a ring stopped by it stays as it is.
use Rattle.std.proofs.Common.{◌≡◌, ℕ, ◌-◌, Bool, false, true, List, [], ◌∷◌, ◌++◌, length, Option, Some, IfSome, Err, refl, sym}
use Rattle.std.proofs.Common.{ap, subst, ◌∙◌, inl, inr, arith}
use Rattle.std.specs.Prelude.{if◌then◌else◌, nat_lt}
use Rattle.std.proofs.lemmas.List.{append-nil}
use Rattle.tx_ring.specs.KeptSlots.{BeginsBad, HasStopped}
use Rattle.tx_ring.specs.Laws.{HasStoppedAt}
use Rattle.tx_ring.specs.Rings.{TxState, front_slot, place_answer, room_of, slot_of}
use Rattle.tx_ring.specs.Sends.{after_send, after_taking, answer_with, counts_of, good_front, packets_of, send_answer}
use Rattle.tx_ring.specs.Sends.{stop_at_front, taken_by}
use Rattle.tx_ring.specs.Slots.{Request}
use Rattle.tx_ring.specs.declared.error.SendError.TheVariants.{BadSlot}
use Rattle.tx_ring.specs.declared.error.TxError.TheVariants.{TooLong, Stopped}
use Rattle.tx_ring.specs.declared.ring.Sent.{Sent}
use Rattle.tx_ring.proofs.Runs.{kept, left_begins}
use Rattle.tx_ring.proofs.Sends.{stopped_by}
use Rattle.tx_ring.proofs.Splits.{after_good, left_in, left_is, taken_in}
use Rattle.tx_ring.proofs.Takings.{begun_bad}

-- the good requests and those left make up all
good_and_left : (room : ℕ) (requests : List Request) → good_front room requests ++ after_good room requests ≡ requests
good_and_left room [] = refl
good_and_left room (request ∷ requests) =
    grind (arith, good_and_left room requests)

taken_and_left : (room : ℕ) (skip : Bool) (requests : List Request)
    → taken_in room skip requests ++ left_in room skip requests ≡ requests
taken_and_left room true requests = append-nil requests
taken_and_left room false requests = good_and_left room requests

-- what a send leaves
pub left_of_ring : (ring : TxState) → (after_send ring).requests ≡ left_in (room_of ring.shape) ring.skip_bad ring.requests
left_of_ring ring =
    let left = after_taking (length (taken_by ring)) ring in
    (kept left left.requests).3 ∙ left_is (room_of ring.shape) ring.skip_bad ring.requests

pub none_lost : (ring : TxState) → taken_by ring ++ (after_send ring).requests ≡ ring.requests
none_lost ring =
    ap (λ (left : List Request). taken_by ring ++ left) (left_of_ring ring)
    ∙ taken_and_left (room_of ring.shape) ring.skip_bad ring.requests

-- a send that reported a slot left a request there, and the ring stopped
told_slot : (left : TxState) (counts : Sent) (requests : List Request) (slot : ℕ)
    → answer_with left counts requests ≡ Err (BadSlot slot)
    → (requests ≡ [] → ⊥) × (slot ≡ front_slot left) × ((stop_at_front left requests).stopped ≡ Some slot)
told_slot left counts [] slot told = cc
told_slot left counts (request ∷ requests) slot told =
    let same : front_slot left ≡ slot = cc in
    (λ none. cc, sym same, ap Some same)

-- a ring that stopped refuses each place
refused_by : (ring : TxState) (slot : ℕ) (bytes : List ℕ) → ring.stopped ≡ Some slot
    → place_answer ring bytes ≡ (if nat_lt (room_of ring.shape) (length bytes) then Err TooLong else Err (Stopped slot))
refused_by ring slot bytes stopped = rw stopped refl

pub stopped_for_good : (ring : TxState) (slot : ℕ) → send_answer ring ≡ Err (BadSlot slot) → HasStoppedAt slot (after_send ring)
stopped_for_good ring slot told =
    let room = room_of ring.shape in
    let left = after_taking (length (taken_by ring)) ring in
    let next = after_send ring in
    let parts = kept left left.requests in
    let at = told_slot left (counts_of ring) left.requests slot told in
    let bad : (ring.skip_bad ≡ false) × BeginsBad room next.requests =
    elim (left_begins room ring.skip_bad ring.requests) [
      | inl empty ↦ absurd (at.0 (sym parts.3 ∙ left_of_ring ring ∙ empty))
      | inr bad ↦ (bad.0, subst (BeginsBad room) (sym (left_of_ring ring)) bad.1)
    ] in
    let front : slot ≡ slot_of next.shape (next.placed - length next.requests) = rw (parts.0, parts.2, parts.3) at.1 in
    let stop : HasStopped next (next.placed - length next.requests) slot = record {
      front = front;
      bad = rw parts.0 bad.1;
      stays = parts.1 ∙ bad.0;
    } in
    let keeps : IfSome next.stopped (HasStopped next (next.placed - length next.requests)) =
    subst (λ (o : Option ℕ). IfSome o (HasStopped next (next.placed - length next.requests))) (sym at.2) stop in
    let stays = stopped_by next (next.placed - length next.requests) slot keeps at.2 refl in
    let taken : taken_by next ≡ [] =
    ap (λ (skip : Bool). if skip then next.requests else good_front (room_of next.shape) next.requests) stop.stays
    ∙ (begun_bad (room_of next.shape) next.requests stop.bad).1 in
    record {
      answer = stays.0;
      same = stays.1;
      none = ap (packets_of (room_of next.shape)) taken;
      refused = λ bytes. refused_by next slot bytes at.2;
    }
