-- What the close of a block writes, with one more packet.
use Rattle.std.proofs.Common.{◌≡◌, ℕ, ◌+◌, ◌<◌, ◌≤◌, List, [], ◌∷◌, ◌++◌, length, refl, sym, ap, ◌∙◌, arith, length-append}
use Rattle.std.proofs.Common.{length-take, add_assoc, Bool}
use Rattle.std.proofs.Math.Nat.{zero-add}
use Rattle.std.specs.List.{AllByRecursion}
use Rattle.std.proofs.lemmas.List.Sums.{sum_by-append, sum_by-cons}
use Rattle.frame_view.specs.declared.frames.Packet.{Packet}
use Rattle.ring_model.specs.Offers.{packet_of}
use Rattle.ring_model.specs.Sizes.{need_of, used_by}
use Rattle.ring_model.specs.declared.notes.Offer.{Offer}
use Rattle.tp_layout.specs.Blocks.{first_time, last_time_after, needs_of}
use Rattle.tp_layout.specs.Dump.{packets_of_offers}
use Rattle.tp_layout.specs.Packets.{need_of_packet}
use Rattle.tp_layout.specs.Requests.{fills_hash, first_of}
use Rattle.tp_layout.specs.BlockWrites.{IsWritable, closing_of, end_of, last_place}
use Rattle.tp_layout.specs.declared.requests.RingRequest.{RingRequest}

pub packets_push : (shape : RingRequest) (offers : List Offer) (offer : Offer)
    → packets_of_offers shape (offers ++ offer ∷ []) ≡ packets_of_offers shape offers ++ packet_of (fills_hash shape) offer ∷ []
packets_push shape [] offer = refl
packets_push shape (first ∷ offers) offer = ap (λ ps. packet_of (fills_hash shape) first ∷ ps) (packets_push shape offers offer)

pub writable_push : (offers : List Offer) (offer : Offer) → AllByRecursion IsWritable offers → IsWritable offer
    → AllByRecursion IsWritable (offers ++ offer ∷ [])
writable_push [] offer all one = (one, tt)
writable_push (first ∷ offers) offer all one = (all.0, writable_push offers offer all.1 one)

pub used_push : (offers : List Offer) (offer : Offer) → used_by (offers ++ offer ∷ []) ≡ used_by offers + need_of offer.snap
used_push offers offer = let all = sum_by-append (λ (o : Offer). need_of o.snap) offers (offer ∷ []) in omega arith

pub snap_kept : (fill : Bool) (offer : Offer) → IsWritable offer → length (packet_of fill offer).bytes ≡ offer.snap
snap_kept fill offer w = let kept = length-take offer.snap offer.frame.bytes in let most = w.captured in omega arith

-- what a packet of an offer takes is what the offer needs
pub need_kept : (fill : Bool) (offer : Offer) → IsWritable offer → need_of_packet (packet_of fill offer) ≡ need_of offer.snap
need_kept fill offer w = ap need_of (snap_kept fill offer w)

pub needs_are : (shape : RingRequest) (offers : List Offer) → AllByRecursion IsWritable offers
    → needs_of (packets_of_offers shape offers) ≡ used_by offers
needs_are shape [] all = refl
needs_are shape (offer ∷ offers) all =
    let fill = fills_hash shape in
    let first = sum_by-cons need_of_packet (packet_of fill offer) (packets_of_offers shape offers) in
    let same = sum_by-cons (λ (o : Offer). need_of o.snap) offer offers in
    let one = need_kept fill offer all.0 in
    let rest = needs_are shape offers all.1 in
    first ∙ (ap (λ n. n + needs_of (packets_of_offers shape offers)) one ∙ (ap (λ n. need_of offer.snap + n) rest ∙ sym same))

pub last_place_push : (at : ℕ) (packets : List Packet) (packet : Packet)
    → last_place at (packets ++ packet ∷ []) ≡ at + needs_of packets
last_place_push at [] packet = omega arith
last_place_push at (p ∷ []) packet = ap (λ n. at + n) (sym (zero-add (need_of_packet p)))
last_place_push at (p ∷ next ∷ packets) packet =
    let first = sum_by-cons need_of_packet p (next ∷ packets) in
    last_place_push (at + need_of_packet p) (next ∷ packets) packet
    ∙ (add_assoc at (need_of_packet p) (needs_of (next ∷ packets)) ∙ ap (λ n. at + n) (sym first))

pub last_time_push : (time : ℕ × ℕ) (packets : List Packet) (packet : Packet)
    → last_time_after time (packets ++ packet ∷ []) ≡ (packet.sec, packet.nsec)
last_time_push time [] packet = refl
last_time_push time (p ∷ packets) packet = last_time_push (p.sec, p.nsec) packets packet

-- what an offer needs is at least a header and one byte, rounded up
pub need_least : (offer : Offer) → IsWritable offer → 88 ≤ need_of offer.snap
need_least offer w = let some = w.some in omega arith

-- the last packet is not before the first place, and ends where the packets end
pub last_place_within : (shape : RingRequest) (at : ℕ) (offers : List Offer) → AllByRecursion IsWritable offers
    → 0 < length offers
    → (at ≤ last_place at (packets_of_offers shape offers))
    × (last_place at (packets_of_offers shape offers) + 88 ≤ at + used_by offers)
last_place_within shape at [] all some = absurd (omega arith)
last_place_within shape at (offer ∷ []) all some = (omega arith, (let least = need_least offer all.0 in omega arith))
last_place_within shape at (offer ∷ next ∷ offers) all some =
    let need = need_kept (fills_hash shape) offer all.0 in
    let rest = last_place_within shape (at + need_of offer.snap) (next ∷ offers) all.1 (omega arith) in
    let all_needs = sum_by-cons (λ (o : Offer). need_of o.snap) offer (next ∷ offers) in
    rw need (omega arith, omega arith)

-- the close of a block with one more packet
pub closing_push : (shape : RingRequest) (offers : List Offer) (offer : Offer) → AllByRecursion IsWritable offers
    → IsWritable offer
    → closing_of shape 0 (packets_of_offers shape (offers ++ offer ∷ [])) ≡ record {
      status = 0;
      packets = length (packets_of_offers shape offers) + 1;
      length = end_of shape (packets_of_offers shape offers) + need_of offer.snap;
      last_at = end_of shape (packets_of_offers shape offers);
      first_sec = (first_time (packets_of_offers shape (offers ++ offer ∷ []))).0;
      first_nsec = (first_time (packets_of_offers shape (offers ++ offer ∷ []))).1;
      last_sec = offer.frame.sec;
      last_nsec = offer.frame.nsec;
    }
closing_push shape offers offer all one =
    let packets = packets_of_offers shape offers in
    let packet = packet_of (fills_hash shape) offer in
    let count = length-append packets (packet ∷ []) in
    let one_more : length (packets ++ packet ∷ []) ≡ length packets + 1 = omega arith in
    let needs = sum_by-append need_of_packet packets (packet ∷ []) in
    let need = need_kept (fills_hash shape) offer one in
    let total : end_of shape (packets ++ packet ∷ []) ≡ end_of shape packets + need_of offer.snap = omega arith in
    let place = last_place_push (first_of shape) packets packet in
    let time = last_time_push (0, 0) packets packet in
    rw (packets_push shape offers offer, one_more, total, place, time)
