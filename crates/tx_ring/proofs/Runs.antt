-- A run of frames through a ring: what was sent and what is still requested make up the result of
-- all requests.
use Rattle.std.proofs.Common.{◌≡◌, ℕ, ◌+◌, ◌≤◌, Bool, false, true, ◌⊎◌, List, [], ◌∷◌, ◌++◌, length, drop, Option, None, Some}
use Rattle.std.proofs.Common.{IfSome, Ok, Err, true≢false, refl, sym, ap, subst, ◌∙◌, inl, inr, arith}
use Rattle.std.specs.Prelude.{if◌then◌else◌}
use Rattle.std.proofs.lemmas.List.{append_assoc}
use Rattle.std.proofs.Math.Seq.{drop-length}
use Rattle.frame_view.specs.declared.frames.Packet.{Packet}
use Rattle.tp_layout.specs.declared.requests.RingRequest.{RingRequest}
use Rattle.tx_ring.specs.KeptSlots.{BeginsBad}
use Rattle.tx_ring.specs.Rings.{TxState, room_of}
use Rattle.tx_ring.specs.Sends.{UnlessMemory, after_send, after_taking, answer_with, bad_in, counts_of, good_front}
use Rattle.tx_ring.specs.Sends.{packets_sent, send_answer, stop_at_front, taken_by}
use Rattle.tx_ring.specs.Slots.{Request}
use Rattle.tx_ring.specs.Transmission.{sent_once}
use Rattle.tx_ring.specs.declared.error.SendError.{SendError}
use Rattle.tx_ring.specs.declared.error.SendError.TheVariants.{BadSlot, Memory}
use Rattle.tx_ring.specs.declared.transmission.Transmitter.{Transmitter}
use Rattle.tx_ring.proofs.Splits.{after_good, bad_in_good, left_bad, left_in, left_is, over_by, over_split, sent_by, sent_split}
use Rattle.tx_ring.proofs.Splits.{stops_by, stops_split}

-- a send that reports a bad slot skipped none
none_over_by : (ring : TxState) (slot : ℕ) (skip : Bool) → ring.skip_bad ≡ skip → Err (BadSlot slot) ≡ send_answer ring
    → bad_in (room_of ring.shape) (taken_by ring) ≡ 0
none_over_by ring slot true skips told =
    let whole : taken_by ring ≡ ring.requests =
    ap (λ (skip : Bool). if skip then ring.requests else good_front (room_of ring.shape) ring.requests) skips in
    let left : after_taking (length (taken_by ring)) ring ≡ record ring { requests = [] } =
    ap (λ (taken : List Request). after_taking (length taken) ring) whole
    ∙ ap (λ (requests : List Request). record ring { requests = requests }) (drop-length ring.requests) in
    let answer : send_answer ring ≡ Ok (counts_of ring) =
    ap (λ (r : TxState). answer_with r (counts_of ring) r.requests) left in
    let never : Err (BadSlot slot) ≡ Ok (counts_of ring) = told ∙ answer in
    cc
none_over_by ring slot false stays told =
    ap (λ (skip : Bool). bad_in (room_of ring.shape)
    (if skip then ring.requests else good_front (room_of ring.shape) ring.requests)) stays
    ∙ bad_in_good (room_of ring.shape) ring.requests

pub none_over : (ring : TxState) (slot : ℕ) → Err (BadSlot slot) ≡ send_answer ring
    → bad_in (room_of ring.shape) (taken_by ring) ≡ 0
none_over ring slot told = none_over_by ring slot ring.skip_bad refl told

never : {slot : ℕ} → Memory ≡ BadSlot slot → ⊥
never is = cc

-- a run after a send that reported a bad slot
pub sent_to_bad : (error : SendError) (slot : ℕ) (run : Transmitter) (ring : TxState) (out : List Packet) → error ≡ BadSlot slot
    → UnlessMemory (Err error) (Err error ≡ send_answer run.ring) → UnlessMemory (Err error) (ring ≡ after_send run.ring)
    → UnlessMemory (Err error) (out ≡ run.packets ++ packets_sent run.ring)
    → record { ring = ring; packets = out; skipped = run.skipped } ≡ sent_once run
sent_to_bad (BadSlot slot) same run ring out is answer after_it appended =
    let none : run.skipped ≡ run.skipped + bad_in (room_of run.ring.shape) (taken_by run.ring) =
    rw (none_over run.ring slot answer) (omega arith) in
    cc
sent_to_bad Memory slot run ring out is answer after_it appended = absurd (never is)

-- what was sent, skipped and requested of requests that a run was given
pub record Carries (shape : RingRequest) (skip : Bool) (done : List Request) (run : Transmitter) : Type 0 where
  pub shape_is : run.ring.shape ≡ shape
  pub skip_is : run.ring.skip_bad ≡ skip
  pub placed : run.ring.placed ≤ length done
  pub packets : (more : List Request) → run.packets ++ sent_by (room_of shape) skip (run.ring.requests ++ more)
      ≡ sent_by (room_of shape) skip (done ++ more)
  pub skipped : (more : List Request) → run.skipped + over_by (room_of shape) skip (run.ring.requests ++ more)
      ≡ over_by (room_of shape) skip (done ++ more)
  pub stops : (more : List Request) → stops_by (room_of shape) skip (run.ring.requests ++ more)
      ≡ stops_by (room_of shape) skip (done ++ more)
  pub stopped : IfSome run.ring.stopped (λ slot. (skip ≡ false) × BeginsBad (room_of shape) run.ring.requests)

-- the parts of a ring that a send leaves or changes
pub kept : (ring : TxState) (requests : List Request)
    → ((stop_at_front ring requests).shape ≡ ring.shape) × ((stop_at_front ring requests).skip_bad ≡ ring.skip_bad)
    × ((stop_at_front ring requests).placed ≡ ring.placed) × ((stop_at_front ring requests).requests ≡ ring.requests)
kept ring [] = (refl, refl, refl, refl)
kept ring (request ∷ requests) = (refl, refl, refl, refl)

-- the requests that a send leaves
left_after : {shape : RingRequest} {skip : Bool} {done : List Request} {run : Transmitter} → Carries shape skip done run
    → drop (length (taken_by run.ring)) run.ring.requests ≡ left_in (room_of shape) skip run.ring.requests
left_after {shape} {skip} {run} carries =
    rw (carries.shape_is, carries.skip_is) (left_is (room_of shape) skip run.ring.requests)

never_empty : {request : Request} {requests : List Request} → request ∷ requests ≡ [] → ⊥
never_empty empty = cc

-- a ring stops where a send leaves a request
stops_where : (room : ℕ) (skip : Bool) (ring : TxState) (left : List Request)
    → (left ≡ []) ⊎ ((skip ≡ false) × BeginsBad room left) → (left ≡ [] → ring.stopped ≡ None)
    → IfSome (stop_at_front ring left).stopped (λ slot. (skip ≡ false) × BeginsBad room left)
stops_where room skip ring [] begins none = rw (none refl) tt
stops_where room skip ring (request ∷ requests) (inl empty) none = absurd (never_empty empty)
stops_where room skip ring (request ∷ requests) (inr begins) none = begins

-- a ring that a bad request stopped leaves that request
bad_left : (room : ℕ) (requests : List Request) → BeginsBad room requests → after_good room requests ≡ [] → ⊥
bad_left room [] bad none = bad
bad_left room (request ∷ requests) bad none =
    let stays : after_good room (request ∷ requests) ≡ request ∷ requests = rw bad refl in
    never_empty (sym stays ∙ none)

-- where a send leaves none, the ring hadn't stopped
gone_on : (room : ℕ) (skip : Bool) (requests : List Request) (stopped : Option ℕ)
    → IfSome stopped (λ slot. (skip ≡ false) × BeginsBad room requests) → left_in room skip requests ≡ [] → stopped ≡ None
gone_on room skip requests None stop none = refl
gone_on room true requests (Some slot) stop none = absurd (true≢false stop.0)
gone_on room false requests (Some slot) stop none = absurd (bad_left room requests stop.1 none)

-- what a send leaves begins with a bad request that isn't skipped
pub left_begins : (room : ℕ) (skip : Bool) (requests : List Request)
    → (left_in room skip requests ≡ []) ⊎ ((skip ≡ false) × BeginsBad room (left_in room skip requests))
left_begins room true requests = inl refl
left_begins room false requests =
    elim (left_bad room requests) [
      | inl empty ↦ inl empty
      | inr bad ↦ inr (refl, bad)
    ]

-- the ring after a send of a run
pub record Left (shape : RingRequest) (skip : Bool) (old new : TxState) : Type 0 where
  pub shape_is : new.shape ≡ shape
  pub skip_is : new.skip_bad ≡ skip
  pub placed : new.placed ≡ old.placed
  pub requests : new.requests ≡ left_in (room_of shape) skip old.requests
  pub stopped : IfSome new.stopped (λ slot. (skip ≡ false) × BeginsBad (room_of shape) new.requests)

pub left_by_send : {shape : RingRequest} {skip : Bool} {done : List Request} {run : Transmitter} → Carries shape skip done run
    → Left shape skip run.ring (after_send run.ring)
left_by_send {shape} {skip} {run} carries =
    let ring = run.ring in
    let room = room_of shape in
    let left = after_taking (length (taken_by ring)) ring in
    let parts = kept left left.requests in
    let rest : left.requests ≡ left_in room skip ring.requests = left_after carries in
    let begins : (left.requests ≡ []) ⊎ ((skip ≡ false) × BeginsBad room left.requests) =
    subst (λ (requests : List Request). (requests ≡ []) ⊎ ((skip ≡ false) × BeginsBad room requests)) (sym rest)
    (left_begins room skip ring.requests) in
    let none : left.requests ≡ [] → ring.stopped ≡ None =
    λ empty. gone_on room skip ring.requests ring.stopped carries.stopped (sym rest ∙ empty) in
    record {
      shape_is = parts.0 ∙ carries.shape_is;
      skip_is = parts.1 ∙ carries.skip_is;
      placed = parts.2;
      requests = parts.3 ∙ rest;
      stopped =
          subst (λ (requests : List Request). IfSome (after_send ring).stopped
          (λ slot. (skip ≡ false) × BeginsBad room requests)) (sym parts.3)
          (stops_where room skip left left.requests begins none);
    }

-- a run still represents its requests after a send
pub send_carries : {shape : RingRequest} {skip : Bool} {done : List Request} {run : Transmitter} → Carries shape skip done run
    → Carries shape skip done (sent_once run)
send_carries {shape} {skip} {run} carries =
    let room = room_of shape in
    let left = left_by_send carries in
    let requests = run.ring.requests in
    let sent : packets_sent run.ring ≡ sent_by room skip requests = rw (carries.shape_is, carries.skip_is) refl in
    let over : bad_in (room_of run.ring.shape) (taken_by run.ring) ≡ over_by room skip requests =
    rw (carries.shape_is, carries.skip_is) refl in
    let placed = carries.placed in
    let same = left.placed in
    record {
      shape_is = left.shape_is;
      skip_is = left.skip_is;
      placed = omega (arith, placed, same);
      packets =
          λ more. rw (
            left.requests,
            sent,
            append_assoc run.packets (sent_by room skip requests) (sent_by room skip (left_in room skip requests ++ more)),
            sym (sent_split room skip requests more),
          ) (carries.packets more);
      skipped = λ more.
          let split = over_split room skip requests more in
          let was = carries.skipped more in
          rw (left.requests, over) (omega (arith, split, was));
      stops = λ more. rw (left.requests, sym (stops_split room skip requests more)) (carries.stops more);
      stopped = left.stopped;
    }
