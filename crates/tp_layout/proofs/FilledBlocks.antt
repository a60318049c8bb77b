-- Laws of texts: a text has one meaning, and a block that was filled has a text.
use Rattle.std.proofs.Common.{◌≡◌, ℕ, ◌+◌, ◌≤◌, ◌<◌, List, [], ◌∷◌, ◌++◌, length, refl, sym, subst, ◌∙◌, arith, append_assoc}
use Rattle.std.specs.List.{AllByRecursion}
use Rattle.std.proofs.lemmas.List.{append-nil, length-take-le, length-map}
use Rattle.frame_view.specs.declared.frames.Packet.{Packet}
use Rattle.ring_model.specs.Offers.{packet_of}
use Rattle.ring_model.specs.Sizes.{need_of}
use Rattle.ring_model.specs.declared.notes.Offer.{Offer}
use Rattle.tp_layout.specs.declared.requests.RingRequest.{RingRequest}
use Rattle.tp_layout.specs.Requests.{IsShape, fills_hash, first_of}
use Rattle.tp_layout.specs.Packets.{packet_text, need_of_packet, IsLawfulPacket}
use Rattle.tp_layout.specs.Blocks.{IsLawful, BeginsWith, end_may, needs_of}
use Rattle.tp_layout.specs.BlockWrites.{IsOpen, put, open_header, closing_of, end_of}
use Rattle.tp_layout.specs.Dump.{packets_of_offers}
use Rattle.tp_layout.specs.Laws.{Said, text_of_said, HaveOneText, IsOffer, GoIn, filled, written}
use Rattle.tp_layout.proofs.Puts.{length-put, length-packet_text}
use Rattle.tp_layout.proofs.Opens.{opened, held, closes, needs-cons, length-header}
use Rattle.tp_layout.proofs.BlockTexts.{BlockPasses, block_passes}
use Rattle.tp_layout.proofs.ReaderAnswers.{end_lawful}

-- ---- a text has one meaning

text_passes : (shape : RingRequest) (said : Said) → IsShape shape → IsLawful shape said.number said.status said.packets
    → BlockPasses (end_may shape) shape said.number said.status said.packets (text_of_said shape said)
text_passes shape said sound lawful =
    block_passes (end_may shape) shape said.number said.status said.packets (text_of_said shape said) [] sound.small lawful
    (end_lawful shape said.number said.status said.packets lawful) (sym (append-nil (text_of_said shape said)))

pub one_text : (shape : RingRequest) (first second : Said) → HaveOneText shape first second → first ≡ second
one_text shape first second h =
    let a = text_passes shape first h.sound h.lawful in
    let b = subst (λ (text : List ℕ). BlockPasses (end_may shape) shape second.number second.status second.packets text)
    (sym h.same) (text_passes shape second h.sound h.other) in
    let number : first.number ≡ second.number = sym a.number_is ∙ b.number_is in
    let status : first.status ≡ second.status = sym a.status_is ∙ b.status_is in
    let packets : first.packets ≡ second.packets = sym a.packets_are ∙ b.packets_are in
    same first second number status packets
  where
    same : (first second : Said) → first.number ≡ second.number → first.status ≡ second.status → first.packets ≡ second.packets
        → first ≡ second
    same first second number status packets = λ i. record { number = number i; status = status i; packets = packets i }

-- ---- a block that is filled

lawful_offer : (shape : RingRequest) (offer : Offer) → IsOffer shape offer → IsLawfulPacket (packet_of (fills_hash shape) offer)
lawful_offer shape offer h =
    let sound = h.writable in
    let kept = length-take-le offer.snap offer.frame.bytes sound.captured in
    record {
      some = rw kept sound.some;
      captured = rw kept sound.wire;
      nsec = sound.nsec;
      pkttype = sound.pkttype;
      tag = sound.tag;
      typed = h.typed;
    }

-- what a write of an offer's packet leaves of an open block
pub packet_held : (shape : RingRequest) (number at : ℕ) (packets : List Packet) (offer : Offer) (bytes new : List ℕ)
    → IsOffer shape offer
    → new ≡ put at (packet_text (need_of offer.snap) (packet_of (fills_hash shape) offer)) bytes
    → IsOpen shape number packets bytes → at ≡ end_of shape packets
    → IsOpen shape number (packets ++ packet_of (fills_hash shape) offer ∷ []) new
packet_held shape number at packets offer bytes new h so is_open here =
    let packet = packet_of (fills_hash shape) offer in
    let kept = length-take-le offer.snap offer.frame.bytes h.writable.captured in
    let whole : new ≡ put at (packet_text (need_of_packet packet) packet) bytes = so ∙ rw kept refl in
    rw whole (held shape number at packets packet bytes is_open here (lawful_offer shape offer h))

needs-append : (packets : List Packet) (packet : Packet)
    → needs_of (packets ++ packet ∷ []) ≡ needs_of packets + need_of_packet packet
needs-append [] packet = omega (arith, needs-cons packet [])
needs-append (first ∷ packets) packet =
    omega (arith, needs-append packets packet, needs-cons first (packets ++ packet ∷ []), needs-cons first packets)

-- what stays while a block is filled
record Filled (shape : RingRequest) (number : ℕ) (packets : List Packet) (bytes : List ℕ) : Type 0 where
  is_open : IsOpen shape number packets bytes
  size : length bytes ≡ shape.block_size

fills : (shape : RingRequest) (number at : ℕ) (done : List Packet) (offers : List Offer) (bytes : List ℕ)
    → Filled shape number done bytes → at ≡ end_of shape done
    → AllByRecursion (IsOffer shape) offers → at + needs_of (packets_of_offers shape offers) ≤ shape.block_size
    → Filled shape number (done ++ packets_of_offers shape offers) (filled shape at offers bytes)
fills shape number at done [] bytes h here each fits =
    subst (λ (packets : List Packet). Filled shape number packets bytes) (sym (append-nil done)) h
fills shape number at done (offer ∷ offers) bytes h here each fits =
    let packet = packet_of (fills_hash shape) offer in
    let kept = length-take-le offer.snap offer.frame.bytes each.0.writable.captured in
    let need : need_of offer.snap ≡ need_of_packet packet = rw kept refl in
    let text = packet_text (need_of_packet packet) packet in
    let sum = needs-cons packet (packets_of_offers shape offers) in
    let more : Filled shape number (done ++ packet ∷ []) (put at text bytes) =
    record {
      is_open = held shape number at done packet bytes h.is_open here (lawful_offer shape offer each.0);
      size = length-put at text bytes
          (omega (arith, length-packet_text (need_of_packet packet) packet, fits, sum, h.size)) ∙ h.size;
    } in
    let rest = fills shape number (at + need_of_packet packet) (done ++ packet ∷ []) offers (put at text bytes) more
    (omega (arith, here, needs-append done packet)) each.1 (omega (arith, fits, sum)) in
    rw need (subst (λ (packets : List Packet). Filled shape number packets
    (filled shape (at + need_of_packet packet) offers (put at text bytes)))
    (append_assoc done (packet ∷ []) (packets_of_offers shape offers)) rest)

pub fills_whole : (shape : RingRequest) (number status : ℕ) (offers : List Offer) (bytes : List ℕ)
    → GoIn shape number status offers bytes
    → BeginsWith shape number status (packets_of_offers shape offers) (written shape number status offers bytes)
fills_whole shape number status offers bytes h =
    let header = open_header shape number in
    let first = first_of shape in
    let first_fits : 0 + length header ≤ length bytes = omega (arith, length-header shape number, h.fits, h.block) in
    let start : Filled shape number [] (put 0 header bytes) =
    record { is_open = opened shape number bytes h.small; size = length-put 0 header bytes first_fits ∙ h.block } in
    let whole = fills shape number first [] offers (put 0 header bytes) start (omega arith) h.each h.fits in
    let some : 0 < length (packets_of_offers shape offers) =
    omega (arith, h.some, length-map offers (packet_of (fills_hash shape))) in
    closes shape number (closing_of shape status (packets_of_offers shape offers)) (packets_of_offers shape offers)
    (filled shape first offers (put 0 header bytes)) whole.size whole.is_open h.numbered some refl h.retired
