-- The pieces of a slot's text, written one after another.
use Rattle.std.proofs.Common.{◌≡◌, ℕ, ◌+◌, ◌≤◌, List, ◌++◌, length, drop, replicate, refl, arith, append_assoc}
use Rattle.std.proofs.lemmas.List.{length-append, length-take-le}
use Rattle.std.specs.Prelude.{IsTrue}
use Rattle.frame_view.specs.declared.frames.Packet.{Packet}
use Rattle.ring_model.specs.declared.notes.Offer.{Offer}
use Rattle.tp_layout.specs.Packets.{IsTyped, address_rows}
use Rattle.tp_layout.specs.Rows.{bytes_of, zeros}
use Rattle.tp_layout.specs.BlockWrites.{IsWritable, put}
use Rattle.tp_layout.specs.declared.requests.RingRequest.{RingRequest}
use Rattle.tp_layout.proofs.Opens.{begins}
use Rattle.tp_layout.proofs.Puts.{all, bytes_of-zeros, length-address, length-bytes_of, nothing, piece}
use Rattle.slot_layout.specs.SlotDump.{slot_packet_of}
use Rattle.slot_layout.specs.SlotTexts.{SlotBegins, slot_header_rows, slot_status_may, slot_text}

regroup : (a b c d e : List ℕ) → (((a ++ b) ++ c) ++ d) ++ e ≡ a ++ (b ++ (c ++ (d ++ e)))
regroup a b c d e = simp append_assoc refl

pub slot_put : (status : ℕ) (packet : Packet) (old one two three four five : List ℕ) → 66 + length packet.bytes ≤ length old
    → one ≡ put 0 (bytes_of (slot_header_rows status packet)) old
    → two ≡ put 28 (replicate 4 0) one
    → three ≡ put 32 (bytes_of (address_rows packet)) two
    → four ≡ put 50 (replicate 16 0) three
    → five ≡ put 66 packet.bytes four
    → five ≡ put 0 (slot_text status packet) old
unfolding slot_text
slot_put status packet old one two three four five fits e1 e2 e3 e4 e5 =
    let header = bytes_of (slot_header_rows status packet) in
    let address = bytes_of (address_rows packet) in
    let padding : List ℕ = replicate 4 0 in
    let gap : List ℕ = replicate 16 0 in
    let h1 : length header ≡ 28 = length-bytes_of (slot_header_rows status packet) in
    let h2 : length (header ++ padding) ≡ 32 = omega (arith, h1, length-append header padding) in
    let h3 : length ((header ++ padding) ++ address) ≡ 50 =
    omega (arith, h2, length-address packet, length-append (header ++ padding) address) in
    let h4 : length (((header ++ padding) ++ address) ++ gap) ≡ 66 =
    omega (arith, h3, length-append ((header ++ padding) ++ address) gap) in
    let p0 = nothing 0 old (omega arith) in
    let p1 = piece p0 0 header (omega arith) (omega (arith, h1)) e1 in
    let p2 = piece p1 28 padding (omega (arith, h1)) (omega (arith, h1)) e2 in
    let p3 = piece p2 32 address (omega (arith, h2)) (omega (arith, h2, length-address packet)) e3 in
    let p4 = piece p3 50 gap (omega (arith, h3)) (omega (arith, h3)) e4 in
    let p5 = piece p4 66 packet.bytes (omega (arith, h4)) (omega (arith, h4)) e5 in
    all p5 (bytes_of (slot_header_rows status packet)
    ++ (bytes_of (zeros 28 4) ++ (bytes_of (address_rows packet) ++ (bytes_of (zeros 50 16) ++ packet.bytes))))
    (rw (bytes_of-zeros 28 4, bytes_of-zeros 50 16) (regroup header padding address gap packet.bytes))

-- a slot that was written begins with the text
pub slot_written : (shape : RingRequest) (status : ℕ) (offer : Offer) (old : List ℕ) → IsWritable offer
    → 66 + offer.snap ≤ shape.frame_size
    → IsTyped (slot_packet_of offer) → IsTrue (slot_status_may offer.frame.tag status)
    → SlotBegins shape status (slot_packet_of offer) (put 0 (slot_text status (slot_packet_of offer)) old)
slot_written shape status offer old sound fits typed may =
    let kept = length-take-le offer.snap offer.frame.bytes sound.captured in
    let text = slot_text status (slot_packet_of offer) in
    record {
      lawful = record {
        sound = record {
          some = rw kept sound.some;
          captured = rw kept sound.wire;
          nsec = sound.nsec;
          pkttype = sound.pkttype;
          tag = sound.tag;
          typed = typed;
        };
        no_hash = refl;
        filled = may;
        fits = rw kept fits;
      };
      begins = begins text (drop (0 + length text) old);
    }
