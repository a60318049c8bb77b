-- A send under way: what it took so far comes before what is left.
use Rattle.std.proofs.Common.{◌≡◌, ℕ, ◌+◌, ◌-◌, ◌<◌, ◌≤◌, Bool, false, true, List, [], ◌∷◌, ◌++◌, length, take, drop, Option}
use Rattle.std.proofs.Common.{Some, IfSome, Ok, Err, true≢false, refl, sym, ap, subst, ◌∙◌, arith}
use Rattle.std.specs.Prelude.{if◌then◌else◌}
use Rattle.std.proofs.lemmas.List.{length-append, append_assoc, append-nil, nil_from_length}
use Rattle.std.proofs.Math.Seq.{take-append_seam, drop-append_seam}
use Rattle.frame_view.specs.declared.frames.Packet.{Packet}
use Rattle.tp_layout.specs.declared.requests.RingRequest.{RingRequest}
use Rattle.tx_ring.specs.KeptSlots.{HasStopped, Keeps, state_in}
use Rattle.tx_ring.specs.Rings.{TxState, front_slot, room_of, slot_of}
use Rattle.tx_ring.specs.Sends.{FrontTaken, IsBrokenOff, OnMemory, UnlessMemory, after_send, after_taking, answer_with, bad_in}
use Rattle.tx_ring.specs.Sends.{counted, counts_of, front_of, good_front, is_good, packet_of, packets_of, packets_sent}
use Rattle.tx_ring.specs.Sends.{send_answer, stop_at_front, taken_by}
use Rattle.tx_ring.specs.Slots.{Request, SlotState}
use Rattle.tx_ring.specs.declared.error.SendError.{SendError}
use Rattle.tx_ring.specs.declared.error.SendError.TheVariants.{BadSlot, Memory}
use Rattle.tx_ring.specs.declared.ring.Sent.{Sent}
use Rattle.tx_ring.proofs.Moves.{count_of}
use Rattle.tx_ring.proofs.Takings.{AllGood, at_some, bad_bad, bad_first, bad_good, begun_bad, each_counted, first_and_rest}
use Rattle.tx_ring.proofs.Takings.{good_append, good_more, none_left, packets_bad, packets_good, taken_of}

-- the counts of requests that were taken
abbrev pub counts_in : ℕ → List Request → Sent
counts_in room requests = record { sent = length (packets_of room requests); skipped = bad_in room requests }

-- a send that took n requests of a ring, and what it appended and counted
pub record Going (old new : TxState) (before after : List Packet) (counts : Sent) (count : ℕ) : Type 0 where
  pub done : List Request
  pub many : length done ≡ count
  pub requests : old.requests ≡ done ++ new.requests
  pub ring : new ≡ record old { requests = new.requests }
  pub packets : after ≡ before ++ packets_of (room_of old.shape) done
  pub counts_is : counts ≡ counts_in (room_of old.shape) done
  pub may : old.skip_bad ≡ false → AllGood (room_of old.shape) done

-- before it took any
pub starts : (ring : TxState) (out : List Packet) → Going ring ring out out (record { sent = 0; skipped = 0 }) 0
starts ring out = record {
  done = [];
  many = refl;
  requests = refl;
  ring = refl;
  packets = sym (append-nil out);
  counts_is = refl;
  may = λ stays. tt;
}

-- the first slot left has a request that isn't taken yet
pub some_left : {old new : TxState} {before after : List Packet} {counts : Sent} {count : ℕ}
    → Going old new before after counts count → count < length old.requests → 0 < length new.requests
some_left {new} going more =
    let many = going.many in
    let size = ap length going.requests ∙ length-append going.done new.requests in
    omega arith

-- what it took is reported by the ring
shape_of : {old new : TxState} {before after : List Packet} {counts : Sent} {count : ℕ}
    → Going old new before after counts count → new.shape ≡ old.shape
shape_of going = ap (λ (ring : TxState). ring.shape) going.ring

-- the requests that are left when one more was taken
more_taken : {old mid new : TxState} {before half : List Packet} {counts : Sent} {count : ℕ}
    → (going : Going old mid before half counts count) → 0 < length mid.requests → new ≡ after_taking 1 mid
    → old.requests ≡ (going.done ++ front_of mid.requests ∷ []) ++ new.requests
more_taken {mid} {new} going some ring =
    let left : new.requests ≡ drop 1 mid.requests = ap (λ (ring : TxState). ring.requests) ring in
    going.requests
    ∙ ap (λ (rest : List Request). going.done ++ rest) (first_and_rest mid.requests some)
    ∙ ap (λ (rest : List Request). going.done ++ front_of mid.requests ∷ rest) (sym left)
    ∙ sym (append_assoc going.done (front_of mid.requests ∷ []) new.requests)

more_ring : {old mid new : TxState} {before half : List Packet} {counts : Sent} {count : ℕ}
    → Going old mid before half counts count → new ≡ after_taking 1 mid → new ≡ record old { requests = new.requests }
more_ring {old} {mid} {new} going ring =
    let left : new.requests ≡ drop 1 mid.requests = ap (λ (ring : TxState). ring.requests) ring in
    ring
    ∙ ap (λ (ring : TxState). record ring { requests = drop 1 mid.requests }) going.ring
    ∙ ap (λ (rest : List Request). record old { requests = rest }) (sym left)

-- it took one more
pub goes_on : {old mid new : TxState} {before half after : List Packet} {counts : Sent} {count : ℕ} (is_sent : Bool)
    → Going old mid before half counts count → count < length old.requests → FrontTaken mid new half after (Ok is_sent)
    → Going old new before after (counted counts is_sent) (count + 1)
goes_on {old} {mid} {before} true going less taken =
    let some = some_left going less in
    let room = room_of old.shape in
    let request = front_of mid.requests in
    let good : is_good room request ≡ true =
    ap (λ (shape : RingRequest). is_good (room_of shape) request) (sym (shape_of going)) ∙ taken.0 in
    let many = going.many in
    let size = length-append going.done (request ∷ []) in
    let packets = packets_good room going.done request good in
    let bad = bad_good room going.done request good in
    let one = length-append (packets_of room going.done) (packet_of request ∷ []) in
    record {
      done = going.done ++ request ∷ [];
      many = omega (arith, size, many);
      requests = more_taken going some taken.1;
      ring = more_ring going taken.1;
      packets = taken.2 ∙ ap (λ (sent : List Packet). sent ++ packet_of request ∷ []) going.packets
          ∙ append_assoc before (packets_of room going.done) (packet_of request ∷ [])
          ∙ ap (λ (sent : List Packet). before ++ sent) (sym packets);
      counts_is = ap (λ (c : Sent). counted c true) going.counts_is ∙ rw (packets, bad, one) refl;
      may = λ stays. good_append room going.done request (going.may stays) good;
    }
goes_on {old} {mid} {before} false going less taken =
    let some = some_left going less in
    let room = room_of old.shape in
    let request = front_of mid.requests in
    let is_bad : is_good room request ≡ false =
    ap (λ (shape : RingRequest). is_good (room_of shape) request) (sym (shape_of going)) ∙ taken.0 in
    let many = going.many in
    let size = length-append going.done (request ∷ []) in
    let packets = packets_bad room going.done request is_bad in
    let bad = bad_bad room going.done request is_bad in
    record {
      done = going.done ++ request ∷ [];
      many = omega (arith, size, many);
      requests = more_taken going some taken.2;
      ring = more_ring going taken.2;
      packets = taken.3 ∙ going.packets ∙ ap (λ (sent : List Packet). before ++ sent) (sym packets);
      counts_is = ap (λ (c : Sent). counted c false) going.counts_is ∙ rw (packets, bad) refl;
      may = λ stays. absurd (true≢false (sym taken.1 ∙ ap (λ (ring : TxState). ring.skip_bad) going.ring ∙ stays));
    }

-- it took all that a send takes
pub all_taken : {old new : TxState} {before after : List Packet} {counts : Sent} {count : ℕ}
    → (going : Going old new before after counts count)
    → (if old.skip_bad then new.requests else good_front (room_of old.shape) new.requests) ≡ []
    → taken_by old ≡ going.done
all_taken {old} {new} going none =
    ap (λ (requests : List Request). if old.skip_bad then requests else good_front (room_of old.shape) requests) going.requests
    ∙ taken_of old.skip_bad (room_of old.shape) going.done new.requests going.may
    ∙ ap (λ (rest : List Request). going.done ++ rest) none
    ∙ append-nil going.done

-- what is left of the ring then
pub left_of : {old new : TxState} {before after : List Packet} {counts : Sent} {count : ℕ}
    → (going : Going old new before after counts count) → after_taking (length going.done) old ≡ new
left_of {old} {new} going =
    ap (λ (requests : List Request). record old { requests = drop (length going.done) requests }) going.requests
    ∙ ap (λ (requests : List Request). record old { requests = requests }) (drop-append_seam going.done new.requests)
    ∙ sym going.ring

-- the answer of a send that took all that it takes
pub answers : {old new : TxState} {before after : List Packet} {counts : Sent} {count : ℕ}
    → (going : Going old new before after counts count) → taken_by old ≡ going.done
    → send_answer old ≡ answer_with new counts new.requests
answers {old} {new} {counts} going whole =
    let left : after_taking (length (taken_by old)) old ≡ new =
    ap (λ (done : List Request). after_taking (length done) old) whole ∙ left_of going in
    let told : counts_of old ≡ counts = ap (counts_in (room_of old.shape)) whole ∙ sym going.counts_is in
    ap (λ (ring : TxState). answer_with ring (counts_of old) ring.requests) left
    ∙ ap (λ (c : Sent). answer_with new c new.requests) told

-- the ring after a send that took all that it takes
pub leaves : {old new : TxState} {before after : List Packet} {counts : Sent} {count : ℕ}
    → (going : Going old new before after counts count) → taken_by old ≡ going.done
    → after_send old ≡ stop_at_front new new.requests
leaves {old} {new} going whole =
    let left : after_taking (length (taken_by old)) old ≡ new =
    ap (λ (done : List Request). after_taking (length done) old) whole ∙ left_of going in
    ap (λ (ring : TxState). stop_at_front ring ring.requests) left

-- what a send appended that took all that it takes
pub appended : {old new : TxState} {before after : List Packet} {counts : Sent} {count : ℕ}
    → (going : Going old new before after counts count) → taken_by old ≡ going.done
    → after ≡ before ++ packets_sent old
appended {old} {before} going whole =
    going.packets ∙ ap (λ (done : List Request). before ++ packets_of (room_of old.shape) done) (sym whole)

-- a send that reached the end took all
pub at_end : {old new : TxState} {before after : List Packet} {counts : Sent} {count : ℕ}
    → (going : Going old new before after counts count) → length old.requests ≤ count
    → (new.requests ≡ []) × (taken_by old ≡ going.done)
at_end {old} {new} going all =
    let many = going.many in
    let size = ap length going.requests ∙ length-append going.done new.requests in
    let none : new.requests ≡ [] = nil_from_length new.requests (omega arith) in
    (none, all_taken going (none_left old.skip_bad (room_of old.shape) new.requests none))

pub at_bad : {old new : TxState} {before after : List Packet} {counts : Sent} {count : ℕ}
    → (going : Going old new before after counts count) → new.skip_bad ≡ false
    → is_good (room_of new.shape) (front_of new.requests) ≡ false → taken_by old ≡ going.done
at_bad {old} {new} going stays bad =
    let same : old.skip_bad ≡ false = sym (ap (λ (ring : TxState). ring.skip_bad) going.ring) ∙ stays in
    let is_bad : is_good (room_of old.shape) (front_of new.requests) ≡ false =
    ap (λ (shape : RingRequest). is_good (room_of shape) (front_of new.requests)) (sym (shape_of going)) ∙ bad in
    all_taken going
    (ap (λ (skip : Bool). if skip then new.requests else good_front (room_of old.shape) new.requests) same
    ∙ bad_first (room_of old.shape) new.requests is_bad)

-- a send that was interrupted at a good request
pub broken_off : {old mid new : TxState} {before half after : List Packet} {counts : Sent} {count : ℕ}
    → (going : Going old mid before half counts count) → 0 < length mid.requests → FrontTaken mid new half after (Err Memory)
    → IsBrokenOff (length going.done) old new before after
broken_off {old} {mid} {before} going some taken =
    let room = room_of old.shape in
    let good : is_good room (front_of mid.requests) ≡ true =
    ap (λ (shape : RingRequest). is_good (room_of shape) (front_of mid.requests)) (sym (shape_of going)) ∙ taken.0 in
    let all : taken_by old ≡ going.done ++ (if old.skip_bad then mid.requests else good_front room mid.requests) =
    ap (λ (requests : List Request). if old.skip_bad then requests else good_front room requests) going.requests
    ∙ taken_of old.skip_bad room going.done mid.requests going.may in
    let size = ap length all ∙ length-append going.done (if old.skip_bad then mid.requests else good_front room mid.requests) in
    let more = good_more old.skip_bad room mid.requests some good in
    record {
      some_left = omega arith;
      ring = taken.1 ∙ sym (left_of going);
      packets = taken.2 ∙ going.packets
          ∙ ap (λ (done : List Request). before ++ packets_of room done)
          (sym (ap (take (length going.done)) going.requests ∙ take-append_seam going.done mid.requests));
    }

-- what a send says if it ends with an error
pub record EndsBy (error : SendError) (old new : TxState) (before after : List Packet) : Type 0 where
  pub answer : UnlessMemory (Err error) (Err error ≡ send_answer old)
  pub ring : UnlessMemory (Err error) (new ≡ after_send old)
  pub packets : UnlessMemory (Err error) (after ≡ before ++ packets_sent old)
  pub memory : OnMemory (Err error) ((count : ℕ) × IsBrokenOff count old new before after)

-- a non-empty rest of requests stops the ring
stops_at : (ring : TxState) (counts : Sent) (requests : List Request) → 0 < length requests
    → (answer_with ring counts requests ≡ Err (BadSlot (front_slot ring)))
    × (stop_at_front ring requests ≡ record ring { stopped = Some (front_slot ring) })
stops_at ring counts [] some = absurd (omega arith)
stops_at ring counts (request ∷ requests) some = (refl, refl)

-- a send that ended with an error
pub ends_by : (error : SendError) {old mid new : TxState} {before half after : List Packet} {counts : Sent} {count : ℕ}
    → Going old mid before half counts count → count < length old.requests → FrontTaken mid new half after (Err error)
    → EndsBy error old new before after
ends_by (BadSlot slot) {mid} {counts} going less taken =
    let some = some_left going less in
    let whole = at_bad going taken.1 taken.0 in
    let stop = stops_at mid counts mid.requests some in
    record {
      answer = ap (λ (s : ℕ). Err (BadSlot s)) taken.2 ∙ sym (answers going whole ∙ stop.0);
      ring = taken.3 ∙ ap (λ (s : ℕ). record mid { stopped = Some s }) taken.2
          ∙ sym (leaves going whole ∙ stop.1);
      packets = taken.4 ∙ appended going whole;
      memory = tt;
    }
ends_by Memory going less taken =
    let some = some_left going less in
    record {
      answer = tt;
      ring = tt;
      packets = tt;
      memory = (length going.done, broken_off going some taken);
    }

pub all_counted : {old new : TxState} {before after : List Packet} {counts : Sent} {count : ℕ}
    → Going old new before after counts count → counts.sent + counts.skipped ≡ count
all_counted {old} going =
    ap (λ (c : Sent). c.sent + c.skipped) going.counts_is ∙ each_counted (room_of old.shape) going.done ∙ going.many

-- a ring that stopped stays as it is, and reports the slot where it stopped
pub stopped_by : (ring : TxState) (taken slot : ℕ) → IfSome ring.stopped (HasStopped ring taken) → ring.stopped ≡ Some slot
    → taken ≡ ring.placed - length ring.requests → (send_answer ring ≡ Err (BadSlot slot)) × (after_send ring ≡ ring)
stopped_by ring taken slot keeps is front =
    let stop = at_some (HasStopped ring taken) ring.stopped slot keeps is in
    let begun = begun_bad (room_of ring.shape) ring.requests stop.bad in
    let none : taken_by ring ≡ [] =
    ap (λ (skip : Bool). if skip then ring.requests else good_front (room_of ring.shape) ring.requests) stop.stays ∙ begun.1 in
    let left : after_taking (length (taken_by ring)) ring ≡ ring =
    ap (λ (taken : List Request). after_taking (length taken) ring) none in
    let at : front_slot ring ≡ slot = ap (slot_of ring.shape) (sym front) ∙ sym stop.front in
    let ends = stops_at ring (counts_of ring) ring.requests begun.0 in (
      ap (λ (r : TxState). answer_with r (counts_of ring) r.requests) left ∙ ends.0 ∙ ap (λ (s : ℕ). Err (BadSlot s)) at,
      ap (λ (r : TxState). stop_at_front r r.requests) left ∙ ends.1 ∙ ap (λ (s : ℕ). record ring { stopped = Some s }) at
          ∙ ap (λ (o : Option ℕ). record ring { stopped = o }) (sym is),
    )

pub stopped_answer : {shape : RingRequest} {skip : Bool} {slots : List SlotState} {placed taken slot : ℕ} {stopped : Option ℕ}
    {ring : TxState} → Keeps (state_in shape skip slots placed taken stopped) slots taken
    → state_in shape skip slots placed taken stopped ≡ ring → stopped ≡ Some slot
    → (send_answer ring ≡ Err (BadSlot slot)) × (after_send ring ≡ ring)
stopped_answer {shape} {skip} {slots} {placed} {taken} {slot} {stopped} keeps view is =
    let order = keeps.order in
    let count = count_of keeps refl in
    subst (λ (r : TxState). (send_answer r ≡ Err (BadSlot slot)) × (after_send r ≡ r)) view
    (stopped_by (state_in shape skip slots placed taken stopped) taken slot keeps.stop is (omega arith))
