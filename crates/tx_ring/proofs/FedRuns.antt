-- A run is given one frame after another, and ends with a last send.
use Rattle.std.proofs.Common.{◌≡◌, ℕ, ◌+◌, ◌^◌, ◌<◌, ◌≤◌, Bool, false, true, List, [], ◌∷◌, ◌++◌, length, Option, None}
use Rattle.std.proofs.Common.{Some, IfSome, true≢false, refl, sym, ap, subst, ◌∙◌, inl, inr, arith}
use Rattle.std.specs.Prelude.{if◌then◌else◌, is_some, nat_lt, ◌==◌}
use Rattle.std.proofs.lemmas.Bool.{eqb-true, false_from_ne_true}
use Rattle.std.proofs.lemmas.List.{length-append, append_assoc, append-nil}
use Rattle.frame_view.specs.declared.frames.Frame.{Frame}
use Rattle.frame_view.specs.declared.frames.Packet.{Packet}
use Rattle.tp_layout.specs.declared.requests.RingRequest.{RingRequest}
use Rattle.tx_ring.specs.KeptSlots.{BeginsBad}
use Rattle.tx_ring.specs.Rings.{TxState, after_place, new_ring, room_of, with_request}
use Rattle.tx_ring.specs.Sends.{after_send, after_taking, bad_in, stop_at_front, taken_by}
use Rattle.tx_ring.specs.Slots.{Request}
use Rattle.tx_ring.specs.Transmission.{first_long, is_runt, placed_in, request_for}
use Rattle.tx_ring.specs.Transmission.{requests_of, sent_once, told_of, transmitted_of, with_frame, with_room}
use Rattle.tx_ring.specs.declared.transmission.Transmitter.{Transmitter}
use Rattle.tx_ring.proofs.Lengths.{few_requests, over_all, request_fits, requests-append, sent_all, sent_front, stops_all}
use Rattle.tx_ring.proofs.Runs.{Carries, kept, left_begins, left_by_send, send_carries}
use Rattle.tx_ring.proofs.Splits.{bad_in_good, bad_sends_none, bad_stops, left_in, over_by, sent_by, stops_by}

-- a run that was given nothing
pub starts : (shape : RingRequest) (skip : Bool)
    → Carries shape skip [] (record { ring = new_ring shape skip; packets = []; skipped = 0 })
starts shape skip = record {
  shape_is = refl;
  skip_is = refl;
  placed = omega arith;
  packets = λ more. refl;
  skipped = λ more. omega arith;
  stops = λ more. refl;
  stopped = tt;
}

-- it makes no difference how two lists of requests were put together
one_more : {X : Type 0} (done : List X) (request : X) (more : List X) → (done ++ request ∷ []) ++ more ≡ done ++ request ∷ more
one_more done request more = append_assoc done (request ∷ []) more

-- a ring takes one more request
takes_one : {shape : RingRequest} {skip : Bool} {done : List Request} {run : Transmitter} (request : Request)
    → Carries shape skip done run → run.ring.stopped ≡ None
    → Carries shape skip (done ++ request ∷ []) (record run { ring = with_request run.ring request })
takes_one {done} {run} request carries going =
    let placed = carries.placed in
    let size = length-append done (request ∷ []) in
    record {
      shape_is = carries.shape_is;
      skip_is = carries.skip_is;
      placed = omega (arith, placed, size);
      packets = λ more. rw (one_more run.ring.requests request more, one_more done request more)
          (carries.packets (request ∷ more));
      skipped = λ more. rw (one_more run.ring.requests request more, one_more done request more)
          (carries.skipped (request ∷ more));
      stops = λ more. rw (one_more run.ring.requests request more, one_more done request more) (carries.stops (request ∷ more));
      stopped = rw going tt;
    }

-- requests that begin with a bad one send nothing, whatever follows
bad_alike : (room : ℕ) (skip : Bool) (requests xs ys : List Request) → (skip ≡ false) × BeginsBad room requests
    → (sent_by room skip (requests ++ xs) ≡ sent_by room skip (requests ++ ys))
    × (over_by room skip (requests ++ xs) ≡ over_by room skip (requests ++ ys))
    × (stops_by room skip (requests ++ xs) ≡ stops_by room skip (requests ++ ys))
bad_alike room true requests xs ys bad = absurd (true≢false bad.0)
bad_alike room false requests xs ys bad = (
  bad_sends_none room requests xs bad.1 ∙ sym (bad_sends_none room requests ys bad.1),
  bad_in_good room (requests ++ xs) ∙ sym (bad_in_good room (requests ++ ys)),
  bad_stops room requests xs bad.1 ∙ sym (bad_stops room requests ys bad.1),
)

-- a ring that stopped takes no request, and sends nothing
takes_none : {shape : RingRequest} {skip : Bool} {done : List Request} {run : Transmitter} (request : Request)
    → Carries shape skip done run → (skip ≡ false) × BeginsBad (room_of shape) run.ring.requests
    → Carries shape skip (done ++ request ∷ []) run
takes_none {shape} {skip} {done} {run} request carries bad =
    let placed = carries.placed in
    let size = length-append done (request ∷ []) in
    let alike = λ (more : List Request). bad_alike (room_of shape) skip run.ring.requests more (request ∷ more) bad in
    record {
      shape_is = carries.shape_is;
      skip_is = carries.skip_is;
      placed = omega (arith, placed, size);
      packets = λ more. rw ((alike more).0, one_more done request more) (carries.packets (request ∷ more));
      skipped = λ more. rw ((alike more).1, one_more done request more) (carries.skipped (request ∷ more));
      stops = λ more. rw ((alike more).2, one_more done request more) (carries.stops (request ∷ more));
      stopped = carries.stopped;
    }

-- what a place leaves of a ring that may have stopped
place_by : (ring : TxState) (request : Request) (stopped : Option ℕ) → ring.stopped ≡ stopped
    → nat_lt (room_of ring.shape) (length request.bytes) ≡ false
    → (stopped ≡ None → (length ring.requests == ring.shape.frame_nr) ≡ false)
    → after_place ring request ≡ (if is_some stopped then ring else with_request ring request)
place_by ring request None is fits free = rw (fits, is, free refl) refl
place_by ring request (Some slot) is fits free = rw (fits, is) refl

-- a run is given a request
place_carries : {shape : RingRequest} {skip : Bool} {done : List Request} {run : Transmitter} (bytes : List ℕ)
    (stopped : Option ℕ) → run.ring.stopped ≡ stopped → Carries shape skip done run
    → (run.ring.stopped ≡ None → (length run.ring.requests == run.ring.shape.frame_nr) ≡ false)
    → Carries shape skip (done ++ request_for (room_of shape) bytes ∷ []) (placed_in run bytes)
place_carries {shape} {skip} {done} {run} bytes None is carries free =
    let request = request_for (room_of run.ring.shape) bytes in
    let placed = place_by run.ring request None is (request_fits (room_of run.ring.shape) bytes) (λ none. free is) in
    let same : request ≡ request_for (room_of shape) bytes =
    ap (λ (s : RingRequest). request_for (room_of s) bytes) carries.shape_is in
    subst (Carries shape skip (done ++ request_for (room_of shape) bytes ∷ []))
    (ap (λ (r : TxState). record run { ring = r }) (sym placed))
    (subst (λ (asked : Request). Carries shape skip (done ++ asked ∷ [])
    (record run { ring = with_request run.ring request })) same
    (takes_one request carries is))
place_carries {shape} {skip} {done} {run} bytes (Some slot) is carries free =
    let request = request_for (room_of run.ring.shape) bytes in
    let placed = place_by run.ring request (Some slot) is (request_fits (room_of run.ring.shape) bytes)
    (λ none. free (is ∙ none)) in
    let bad : (skip ≡ false) × BeginsBad (room_of shape) run.ring.requests =
    subst (λ (o : Option ℕ). IfSome o (λ slot. (skip ≡ false) × BeginsBad (room_of shape) run.ring.requests)) is
    carries.stopped in
    subst (Carries shape skip (done ++ request_for (room_of shape) bytes ∷ []))
    (ap (λ (r : TxState). record run { ring = r }) (sym placed))
    (takes_none (request_for (room_of shape) bytes) carries bad)

-- a ring that didn't stop left no request
none_where : (ring : TxState) (left : List Request) → (stop_at_front ring left).stopped ≡ None → left ≡ []
none_where ring [] none = refl
none_where ring (request ∷ left) none = cc

none_after : (ring : TxState) → (after_send ring).stopped ≡ None → (after_send ring).requests ≡ []
none_after ring none =
    let left = after_taking (length (taken_by ring)) ring in
    (kept left left.requests).3 ∙ none_where left left.requests none

-- if all slots are requested a run sends, and then has room, or its ring stopped
room_by : {shape : RingRequest} {skip : Bool} {done : List Request} {run : Transmitter} (full : Bool) → 0 < shape.frame_nr
    → (length run.ring.requests == run.ring.shape.frame_nr) ≡ full → Carries shape skip done run
    → Carries shape skip done (if full then sent_once run else run)
    × ((if full then sent_once run else run).ring.stopped ≡ None
    → (length (if full then sent_once run else run).ring.requests
    == (if full then sent_once run else run).ring.shape.frame_nr) ≡ false)
room_by {shape} {run} true some is carries =
    let after_it = send_carries carries in (
      after_it,
      λ none.
          rw (none_after run.ring none, after_it.shape_is)
          (false_from_ne_true (0 == shape.frame_nr)
          (λ same. let zero : 0 ≡ shape.frame_nr = eqb-true 0 shape.frame_nr same in absurd (omega arith))),
    )
room_by false some is carries = (carries, λ none. is)

-- a run is given a frame
given_by : {shape : RingRequest} {skip : Bool} {done : List Request} {run : Transmitter} (frame : Frame) (runt : Bool)
    → 0 < shape.frame_nr
    → is_runt frame ≡ runt → Carries shape skip done run
    → Carries shape skip (done ++ (if runt then [] else request_for (room_of shape) frame.bytes ∷ []))
    (if runt then run else placed_in (with_room run) frame.bytes)
given_by frame true some is carries = rw append-nil carries
given_by {run} frame false some is carries =
    let made = room_by (length run.ring.requests == run.ring.shape.frame_nr) some refl carries in
    place_carries frame.bytes (with_room run).ring.stopped refl made.0 made.1

pub given : {shape : RingRequest} {skip : Bool} {run : Transmitter} (frames : List Frame) (frame : Frame) → 0 < shape.frame_nr
    → Carries shape skip (requests_of (room_of shape) frames) run
    → Carries shape skip (requests_of (room_of shape) (frames ++ frame ∷ [])) (with_frame run frame)
given {shape} frames frame some carries =
    rw (requests-append (room_of shape) frames (frame ∷ []))
    (given_by frame (is_runt frame) some refl carries)

-- nothing is sent of what a send leaves
nothing_more : (room : ℕ) (skip : Bool) (requests : List Request)
    → (sent_by room skip (left_in room skip requests ++ []) ≡ []) × (over_by room skip (left_in room skip requests ++ []) ≡ 0)
nothing_more room true requests = (refl, refl)
nothing_more room false requests = (
  elim (left_begins room false requests) [
    | inl empty ↦ ap (λ (left : List Request). sent_by room false (left ++ [])) empty
    | inr bad ↦ bad_sends_none room (left_in room false requests) [] bad.1
  ],
  bad_in_good room (left_in room false requests ++ []),
)

-- whether the ring stopped
stopped_is : (room : ℕ) (skip : Bool) (requests : List Request) (stopped : Option ℕ)
    → IfSome stopped (λ slot. (skip ≡ false) × BeginsBad room requests) → (stopped ≡ None → requests ≡ [])
    → is_some stopped ≡ stops_by room skip (requests ++ [])
stopped_is room true requests None stop none = refl
stopped_is room false requests None stop none = rw (none refl) refl
stopped_is room true requests (Some slot) stop none = absurd (true≢false stop.0)
stopped_is room false requests (Some slot) stop none = sym (bad_stops room requests [] stop.1)

-- the result of all requests is there after the last send
pub record Comes (room : ℕ) (skip : Bool) (done : List Request) (run : Transmitter) : Type 0 where
  pub packets : run.packets ≡ sent_by room skip done
  pub skipped : run.skipped ≡ over_by room skip done
  pub stopped : is_some run.ring.stopped ≡ stops_by room skip done

pub ended : {shape : RingRequest} {skip : Bool} {done : List Request} {run : Transmitter} → Carries shape skip done run
    → Comes (room_of shape) skip done (sent_once run)
ended {shape} {skip} {done} {run} carries =
    let room = room_of shape in
    let last = send_carries carries in
    let left = left_by_send carries in
    let none = nothing_more room skip run.ring.requests in
    let all : done ++ [] ≡ done = append-nil done in
    let packets : (sent_once run).packets ++ sent_by room skip (left_in room skip run.ring.requests ++ [])
    ≡ sent_by room skip (done ++ []) =
    subst (λ (requests : List Request). (sent_once run).packets ++ sent_by room skip (requests ++ [])
    ≡ sent_by room skip (done ++ [])) left.requests (last.packets []) in
    let skipped : (sent_once run).skipped + over_by room skip (left_in room skip run.ring.requests ++ [])
    ≡ over_by room skip (done ++ []) =
    subst (λ (requests : List Request). (sent_once run).skipped + over_by room skip (requests ++ [])
    ≡ over_by room skip (done ++ [])) left.requests (last.skipped []) in
    let over : over_by room skip (done ++ []) ≡ over_by room skip done = ap (over_by room skip) all in
    let no_more = none.1 in
    record {
      packets = sym (append-nil (sent_once run).packets)
          ∙ ap (λ (rest : List Packet). (sent_once run).packets ++ rest) (sym none.0) ∙ packets ∙ ap (sent_by room skip) all;
      skipped = omega (arith, skipped, no_more, over);
      stopped = stopped_is room skip (after_send run.ring).requests (after_send run.ring).stopped last.stopped
          (none_after run.ring)
          ∙ last.stops [] ∙ ap (stops_by room skip) all;
    }

itself : {X : Type 0} (o : Option X) → (if is_some o then o else None) ≡ o
itself None = refl
itself (Some x) = refl

-- the result of a run
pub told_is : {shape : RingRequest} {run : Transmitter} (skip : Bool) (frames : List Frame) → run.ring.shape ≡ shape
    → 20 ≤ room_of run.ring.shape → room_of run.ring.shape + 48 < 2 ^ 32
    → Comes (room_of shape) skip (requests_of (room_of shape) frames) run
    → told_of run frames ≡ transmitted_of (room_of shape) skip frames
told_is {shape} true frames same some small comes =
    let least : 20 ≤ room_of shape = rw same at some in
    let most : room_of shape + 48 < 2 ^ 32 = rw same at small in
    rw (
      same,
      comes.packets,
      comes.skipped,
      comes.stopped,
      sent_all (room_of shape) frames (omega arith) most,
      over_all (room_of shape) frames (omega arith) most,
    ) refl
told_is {shape} false frames same some small comes =
    let least : 20 ≤ room_of shape = rw same at some in
    let most : room_of shape + 48 < 2 ^ 32 = rw same at small in
    rw (
      same,
      comes.packets,
      comes.skipped,
      comes.stopped,
      sent_front (room_of shape) frames (omega arith) most,
      bad_in_good (room_of shape) (requests_of (room_of shape) frames),
      stops_all (room_of shape) frames (omega arith) most,
      itself (first_long (room_of shape) frames),
    ) refl

-- how much a run has
few_bad : (room : ℕ) (requests : List Request) → bad_in room requests ≤ length requests
few_bad room [] = omega arith
few_bad room (request ∷ requests) =
    grind (arith, few_bad room requests)

few_over : (room : ℕ) (skip : Bool) (requests : List Request) → over_by room skip requests ≤ length requests
few_over room true requests = few_bad room requests
few_over room false requests = rw (bad_in_good room requests) (omega arith)

pub few_of : {shape : RingRequest} {skip : Bool} {run : Transmitter} (frames : List Frame)
    → Carries shape skip (requests_of (room_of shape) frames) run
    → (run.ring.placed ≤ length frames) × (run.skipped ≤ length frames)
few_of {shape} {skip} frames carries =
    let few = few_requests (room_of shape) frames in
    let placed = carries.placed in
    let all = append-nil (requests_of (room_of shape) frames) in
    let skipped = carries.skipped [] ∙ ap (over_by (room_of shape) skip) all in
    let over = few_over (room_of shape) skip (requests_of (room_of shape) frames) in
    (omega arith, omega (arith, skipped, over, few))
