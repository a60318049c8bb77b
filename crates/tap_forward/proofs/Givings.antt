-- What a sender was given, after each of its steps.
use Rattle.std.proofs.Common.{◌≡◌, ℕ, ◌+◌, ◌<◌, ◌≤◌, Bool, true, false, List, [], ◌∷◌, ◌++◌, length, refl, sym, ap, ◌∙◌, subst}
use Rattle.std.proofs.Common.{arith, append_assoc, append-nil, cond}
use Rattle.std.specs.Prelude.{◌&&◌, nat_le, not, filter, map, replicate}
use Rattle.std.specs.List.{AllByRecursion}
use Rattle.std.proofs.lemmas.Bool.{le-leb, lt-leb}
use Rattle.std.proofs.lemmas.List.{map-append, length-append}
use Rattle.std.proofs.Math.Seq.{take-append_seam}
use Rattle.std.proofs.lemmas.List.Elements.{filter-append}
use Rattle.std.proofs.lemmas.List.Sums.{count_by-le-length, sum_by-append}
use Rattle.frame_view.specs.PlainPacket.{plain_of}
use Rattle.frame_view.specs.Vlan.{frame_of}
use Rattle.frame_view.specs.declared.frames.Packet.{Packet}
use Rattle.tx_ring.specs.Rings.{TxState, room_of, whole_request, with_request}
use Rattle.tx_ring.specs.Sends.{is_good, packet_of, packets_of}
use Rattle.tx_ring.specs.Slots.{Request}
use Rattle.tx_ring.proofs.Takings.{packets_good}
use Rattle.tap_forward.specs.Forwards.{as_sent, is_sendable, sent_of, skipped_of}
use Rattle.tap_forward.specs.Senders.{IsGoing, WasGiven}
use Rattle.tap_forward.specs.declared.sender.Sender.{Sender}

-- ---- one more packet

sent_yes : (room : ℕ) (packet : Packet) → is_sendable room packet ≡ true → sent_of room (packet ∷ []) ≡ as_sent packet ∷ []
unfolding sent_of
sent_yes room packet fit = rw fit refl

sent_no : (room : ℕ) (packet : Packet) → is_sendable room packet ≡ false → sent_of room (packet ∷ []) ≡ []
unfolding sent_of
sent_no room packet unfit = rw unfit refl

pub sent-append : (room : ℕ) (given more : List Packet) → sent_of room (given ++ more) ≡ sent_of room given ++ sent_of room more
unfolding sent_of
sent-append room given more =
    ap (map as_sent) (filter-append (is_sendable room) given more)
    ∙ map-append as_sent (filter (is_sendable room) given) (filter (is_sendable room) more)

pub skipped-append : (room : ℕ) (given more : List Packet)
    → skipped_of room (given ++ more) ≡ skipped_of room given + skipped_of room more
unfolding skipped_of
skipped-append room given more = sum_by-append (λ packet. cond (not (is_sendable room packet)) 1 0) given more

skipped_yes : (room : ℕ) (packet : Packet) → is_sendable room packet ≡ true → skipped_of room (packet ∷ []) ≡ 0
unfolding skipped_of
skipped_yes room packet fit = rw fit refl

skipped_no : (room : ℕ) (packet : Packet) → is_sendable room packet ≡ false → skipped_of room (packet ∷ []) ≡ 1
unfolding skipped_of
skipped_no room packet unfit = rw unfit refl

pub few_skipped : (room : ℕ) (given : List Packet) → skipped_of room given ≤ length given
unfolding skipped_of
few_skipped room given = count_by-le-length (λ packet. not (is_sendable room packet)) given

-- ---- which packets are sent

and_no : (a : Bool) → a && false ≡ false
and_no true = refl
and_no false = refl

pub is_short : (room : ℕ) (packet : Packet) → length (frame_of packet) < 14 → is_sendable room packet ≡ false
is_short room packet short = rw (lt-leb 14 (length (frame_of packet)) short) refl

pub is_long : (room : ℕ) (packet : Packet) → room < length (frame_of packet) → is_sendable room packet ≡ false
is_long room packet long = rw (lt-leb (length (frame_of packet)) room long) (and_no (nat_le 14 (length (frame_of packet))))

pub fits : (room : ℕ) (packet : Packet) → 14 ≤ length (frame_of packet) → length (frame_of packet) ≤ room
    → is_sendable room packet ≡ true
fits room packet whole short =
    rw (le-leb 14 (length (frame_of packet)) whole, le-leb (length (frame_of packet)) room short) refl

-- its request is good, and yields what is sent of it
pub good_request : (room : ℕ) (bytes : List ℕ) → 14 ≤ length bytes → length bytes ≤ room
    → is_good room (whole_request bytes) ≡ true
good_request room bytes whole short = rw (le-leb 14 (length bytes) whole, le-leb (length bytes) room short) refl

pub request_packet : (bytes : List ℕ) → packet_of (whole_request bytes) ≡ plain_of bytes
request_packet bytes = ap plain_of (take-append_seam bytes (replicate (length bytes) 0))

-- ---- the steps of a sender

grows : {A : Type 0} (P : A → Type 0) (xs : List A) (x : A) → AllByRecursion P xs → P x → AllByRecursion P (xs ++ x ∷ [])
grows P [] x all one = (one, tt)
grows P (y ∷ xs) x all one = (all.0, grows P xs x all.1 one)

-- a ring with one more good request
pub goes_on : (ring new : TxState) (bytes : List ℕ) → IsGoing ring → 14 ≤ length bytes → length bytes ≤ room_of ring.shape
    → new ≡ with_request ring (whole_request bytes) → IsGoing new
goes_on ring new bytes going whole short is =
    subst IsGoing (sym is) (record {
      some = going.some;
      strict = going.strict;
      going = going.going;
      good = grows (λ (request : Request). is_good (room_of ring.shape) request ≡ true) ring.requests
          (whole_request bytes) going.good
          (good_request (room_of ring.shape) bytes whole short);
    })

-- a packet was skipped
pub skips : (old new : Sender) (given : List Packet) (packet : Packet) → new.ring ≡ old.ring → new.sent ≡ old.sent
    → new.skipped ≡ old.skipped + 1
    → is_sendable (room_of old.ring.shape) packet ≡ false → WasGiven given old → WasGiven (given ++ packet ∷ []) new
skips old new given packet ring sent skipped unfit was =
    let room = room_of old.ring.shape in
    let size = length-append given (packet ∷ []) in
    let few = was.few in
    let count = skipped-append room given (packet ∷ []) in
    let one = skipped_no room packet unfit in
    let before = was.skipped in
    let same : sent_of room (given ++ packet ∷ []) ≡ sent_of room given =
    sent-append room given (packet ∷ []) ∙ ap (λ (more : List Packet). sent_of room given ++ more) (sent_no room packet unfit)
    ∙ append-nil (sent_of room given) in
    record {
      sent = rw (ring, sent, same) was.sent;
      skipped = rw (ring, skipped, count, one) (omega (arith, before));
      few = rw ring (omega (arith, few, size));
    }

-- a packet's frame was queued
pub queues : (old new : Sender) (given : List Packet) (packet : Packet) (bytes : List ℕ) → frame_of packet ≡ bytes
    → new.ring ≡ with_request old.ring (whole_request bytes) → new.sent ≡ old.sent → new.skipped ≡ old.skipped
    → 14 ≤ length bytes → length bytes ≤ room_of old.ring.shape → WasGiven given old → WasGiven (given ++ packet ∷ []) new
queues old new given packet bytes frame ring sent skipped whole short was =
    let room = room_of old.ring.shape in
    let size = length-append given (packet ∷ []) in
    let few = was.few in
    let fit : is_sendable room packet ≡ true =
    fits room packet (subst (λ (b : List ℕ). 14 ≤ length b) (sym frame) whole)
    (subst (λ (b : List ℕ). length b ≤ room) (sym frame) short) in
    let count = skipped-append room given (packet ∷ []) in
    let none = skipped_yes room packet fit in
    let before = was.skipped in
    let one : packet_of (whole_request bytes) ≡ as_sent packet = request_packet bytes ∙ ap plain_of (sym frame) in
    let more : packets_of room (old.ring.requests ++ whole_request bytes ∷ []) ≡ packets_of room old.ring.requests
    ++ as_sent packet ∷ [] =
    packets_good room old.ring.requests (whole_request bytes) (good_request room bytes whole short)
    ∙ ap (λ (p : Packet). packets_of room old.ring.requests ++ p ∷ []) one in
    record {
      sent = rw (ring, sent)
          (ap (λ (ps : List Packet). old.sent ++ ps) more
          ∙ sym (append_assoc old.sent (packets_of room old.ring.requests) (as_sent packet ∷ []))
          ∙ ap (λ (ps : List Packet). ps ++ as_sent packet ∷ []) was.sent
          ∙ ap (λ (ps : List Packet). sent_of room given ++ ps) (sym (sent_yes room packet fit))
          ∙ sym (sent-append room given (packet ∷ [])));
      skipped = rw (ring, skipped, count, none) (omega (arith, before));
      few = rw ring (omega (arith, few, size));
    }

-- before it was given any
pub fresh : (sender : Sender) → sender.ring.requests ≡ [] → sender.ring.placed ≡ 0 → sender.sent ≡ [] → sender.skipped ≡ 0
    → WasGiven [] sender
unfolding sent_of skipped_of
fresh sender requests placed sent skipped = record {
  sent = rw (sent, requests) refl;
  skipped = skipped;
  few = omega arith;
}
