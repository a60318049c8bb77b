-- An open block keeps what was written, and its close makes it the text of a retired block.
use Rattle.std.proofs.Common.{◌≡◌, ℕ, ◌+◌, ◌-◌, ◌^◌, ◌≤◌, ◌<◌, List, [], ◌∷◌, ◌++◌, length, take, drop, refl, sym, ap, ◌∙◌}
use Rattle.std.proofs.Common.{arith, append_assoc}
use Rattle.std.specs.Prelude.{IsTrue}
use Rattle.std.specs.List.{AllByRecursion}
use Rattle.std.proofs.lemmas.List.{append-nil, length-append, length-take, length-replicate, take_at, drop_at, drop-drop}
use Rattle.std.proofs.lemmas.List.{take-append-drop, take-append-le, drop-append-le}
use Rattle.std.proofs.lemmas.List.Sums.{sum_by-cons}
use Rattle.byteorder.specs.Endian.{little_bytes}
use Rattle.frame_view.specs.declared.frames.Packet.{Packet}
use Rattle.tp_layout.specs.declared.requests.RingRequest.{RingRequest}
use Rattle.tp_layout.specs.declared.block_writes.Closing.{Closing}
use Rattle.tp_layout.specs.Requests.{first_of}
use Rattle.tp_layout.specs.Rows.{bytes_of}
use Rattle.tp_layout.specs.Packets.{packet_text, need_of_packet, IsLawfulPacket, packet_rows}
use Rattle.tp_layout.specs.Blocks.{Descriptor, BeginsWith, head_rows, time_rows, private_rows, end_may, is_status}
use Rattle.tp_layout.specs.Blocks.{descriptor_of, descriptor_text, packets_text, block_text, needs_of}
use Rattle.tp_layout.specs.BlockWrites.{IsOpen, put, empty_descriptor, open_header, open_packets, open_text, end_of, last_place}
use Rattle.tp_layout.specs.BlockWrites.{closing_of, closing_times, closed}
use Rattle.tp_layout.proofs.Puts.{length-put, length-bytes_of, bytes_of-zeros, length-packet_text}

-- ---- lengths

pub length-descriptor : (shape : RingRequest) (desc : Descriptor) → length (descriptor_text shape desc) ≡ first_of shape
unfolding descriptor_text
length-descriptor shape desc =
    omega (
      arith,
      length-append (bytes_of (head_rows (end_may shape) shape desc))
          (bytes_of (time_rows desc) ++ bytes_of (private_rows shape)),
      length-append (bytes_of (time_rows desc)) (bytes_of (private_rows shape)),
      length-bytes_of (head_rows (end_may shape) shape desc),
      length-bytes_of (time_rows desc),
      ap length (bytes_of-zeros 48 (first_of shape - 48)),
      length-replicate {A = ℕ} (first_of shape - 48) 0,
    )

pub needs-cons : (packet : Packet) (packets : List Packet)
    → needs_of (packet ∷ packets) ≡ need_of_packet packet + needs_of packets
needs-cons packet packets = sum_by-cons need_of_packet packet packets

pub length-open_packets : (packets : List Packet) → length (open_packets packets) ≡ needs_of packets
unfolding open_packets
length-open_packets [] = refl
length-open_packets (packet ∷ packets) =
    omega (
      arith,
      length-append (packet_text (need_of_packet packet) packet) (open_packets packets),
      length-packet_text (need_of_packet packet) packet,
      length-open_packets packets,
      needs-cons packet packets,
    )

pub length-open_text : (shape : RingRequest) (number : ℕ) (packets : List Packet)
    → length (open_text shape number packets) ≡ end_of shape packets
unfolding open_text open_header
length-open_text shape number packets =
    omega (
      arith,
      length-append (open_header shape number) (open_packets packets),
      length-descriptor shape (empty_descriptor shape number),
      length-open_packets packets,
    )

pub length-packets_text : (packets : List Packet) → length (packets_text packets) ≡ needs_of packets
unfolding packets_text
length-packets_text [] = refl
length-packets_text (packet ∷ []) = omega (arith, length-packet_text 0 packet, needs-cons packet [])
length-packets_text (packet ∷ next ∷ packets) =
    omega (
      arith,
      length-append (packet_text (need_of_packet packet) packet) (packets_text (next ∷ packets)),
      length-packet_text (need_of_packet packet) packet,
      length-packets_text (next ∷ packets),
      needs-cons packet (next ∷ packets),
    )

pub length-block_text : (shape : RingRequest) (number status : ℕ) (packets : List Packet)
    → length (block_text shape number status packets) ≡ first_of shape + needs_of packets
unfolding block_text
length-block_text shape number status packets =
    omega (
      arith,
      length-append (descriptor_text shape (descriptor_of shape number status packets)) (packets_text packets),
      length-descriptor shape (descriptor_of shape number status packets),
      length-packets_text packets,
    )

-- ---- beginnings

-- bytes that begin with a text are that text and a rest
pub split : (text bytes : List ℕ) → take (length text) bytes ≡ text → bytes ≡ text ++ drop (length text) bytes
split text bytes e = sym (take-append-drop (length text) bytes) ∙ ap (λ (xs : List ℕ). xs ++ drop (length text) bytes) e

pub begins : (text rest : List ℕ) → take (length text) (text ++ rest) ≡ text
begins text rest = take_at text rest (length text) refl

pub within : (text bytes : List ℕ) → take (length text) bytes ≡ text → length text ≤ length bytes
within text bytes e = omega (arith, ap length e, length-take (length text) bytes)

-- ---- pieces written over two parts

put-left : (at : ℕ) (text xs ys : List ℕ) → at + length text ≤ length xs → put at text (xs ++ ys) ≡ put at text xs ++ ys
put-left at text xs ys fits =
    rw (take-append-le at xs ys (omega arith), drop-append-le (at + length text) xs ys fits)
    (simp append_assoc refl)

put-right : (at : ℕ) (text xs ys : List ℕ) → length xs ≡ at → put at text (xs ++ ys) ≡ xs ++ (text ++ drop (length text) ys)
put-right at text xs ys size =
    let past : drop (at + length text) (xs ++ ys) ≡ drop (length text) ys =
    sym (drop-drop (length text) at (xs ++ ys)) ∙ ap (drop (length text)) (drop_at xs ys at size) in
    rw (take_at xs ys at size, past) refl

-- ---- opening

no_packets : (shape : RingRequest) (number : ℕ) (rest : List ℕ)
    → take (length (open_text shape number [])) (open_header shape number ++ rest) ≡ open_text shape number []
unfolding open_text open_packets
no_packets shape number rest = rw (append-nil (open_header shape number)) (begins (open_header shape number) rest)

pub opened : (shape : RingRequest) (number : ℕ) (bytes : List ℕ) → number < 2 ^ 64
    → IsOpen shape number [] (put 0 (open_header shape number) bytes)
opened shape number bytes small =
    record { small = small; each = tt; begins = no_packets shape number (drop (0 + length (open_header shape number)) bytes) }

-- ---- one more packet

open_packets-push : (packets : List Packet) (packet : Packet)
    → open_packets (packets ++ packet ∷ []) ≡ open_packets packets ++ packet_text (need_of_packet packet) packet
unfolding open_packets
open_packets-push [] packet = append-nil (packet_text (need_of_packet packet) packet)
open_packets-push (first ∷ packets) packet =
    ap (λ (xs : List ℕ). packet_text (need_of_packet first) first ++ xs) (open_packets-push packets packet)
    ∙ sym (append_assoc (packet_text (need_of_packet first) first) (open_packets packets)
    (packet_text (need_of_packet packet) packet))

open_text-push : (shape : RingRequest) (number : ℕ) (packets : List Packet) (packet : Packet)
    → open_text shape number (packets ++ packet ∷ []) ≡ open_text shape number packets
    ++ packet_text (need_of_packet packet) packet
unfolding open_text
open_text-push shape number packets packet =
    ap (λ (xs : List ℕ). open_header shape number ++ xs) (open_packets-push packets packet)
    ∙ sym (append_assoc (open_header shape number) (open_packets packets) (packet_text (need_of_packet packet) packet))

each_push : (packets : List Packet) (packet : Packet) → AllByRecursion IsLawfulPacket packets → IsLawfulPacket packet
    → AllByRecursion IsLawfulPacket (packets ++ packet ∷ [])
each_push [] packet each lawful = (lawful, tt)
each_push (first ∷ packets) packet each lawful = (each.0, each_push packets packet each.1 lawful)

pub held : (shape : RingRequest) (number at : ℕ) (packets : List Packet) (packet : Packet) (bytes : List ℕ)
    → IsOpen shape number packets bytes → at ≡ end_of shape packets → IsLawfulPacket packet
    → IsOpen shape number (packets ++ packet ∷ []) (put at (packet_text (need_of_packet packet) packet) bytes)
held shape number at packets packet bytes is_open here lawful =
    let old = open_text shape number packets in
    let text = packet_text (need_of_packet packet) packet in
    let size : length old ≡ at = length-open_text shape number packets ∙ sym here in
    let so : put at text bytes ≡ old ++ (text ++ drop (length text) (drop (length old) bytes)) =
    ap (put at text) (split old bytes is_open.begins) ∙ put-right at text old (drop (length old) bytes) size in
    let grouped : put at text bytes ≡ open_text shape number (packets ++ packet ∷ [])
    ++ drop (length text) (drop (length old) bytes) =
    so ∙ sym (append_assoc old text _) ∙ ap (λ (xs : List ℕ). xs ++ drop (length text) (drop (length old) bytes))
    (sym (open_text-push shape number packets packet)) in
    record {
      small = is_open.small;
      each = each_push packets packet is_open.each lawful;
      begins = rw grouped (begins (open_text shape number (packets ++ packet ∷ [])) _);
    }

-- ---- the close

four : (a b c d : List ℕ) → (a ++ b) ++ (c ++ d) ≡ a ++ ((b ++ c) ++ d)
four a b c d = simp append_assoc refl

-- the text of a packet that says that there is no next one
next_cut : (next : ℕ) (packet : Packet) (rest : List ℕ)
    → little_bytes 4 0 ++ drop 4 (packet_text next packet ++ rest) ≡ packet_text 0 packet ++ rest
unfolding packet_text packet_rows bytes_of
next_cut next packet rest = refl

-- the offset of the last packet
last_closed : (at : ℕ) (front : List ℕ) (packets : List Packet) (rest : List ℕ) → length front ≡ at → 0 < length packets
    → put (last_place at packets) (little_bytes 4 0) (front ++ (open_packets packets ++ rest)) ≡ front
    ++ (packets_text packets ++ rest)
unfolding open_packets packets_text
last_closed at front [] rest size some = absurd (omega arith)
last_closed at front (packet ∷ []) rest size some =
    let text = packet_text (need_of_packet packet) packet in
    let one : (text ++ []) ++ rest ≡ text ++ rest = ap (λ (xs : List ℕ). xs ++ rest) (append-nil text) in
    ap (λ (xs : List ℕ). put at (little_bytes 4 0) (front ++ xs)) one
    ∙ put-right at (little_bytes 4 0) front (text ++ rest) size
    ∙ ap (λ (xs : List ℕ). front ++ xs) (next_cut (need_of_packet packet) packet rest)
last_closed at front (packet ∷ next ∷ packets) rest size some =
    let text = packet_text (need_of_packet packet) packet in
    let more = open_packets (next ∷ packets) in
    let whole = packets_text (next ∷ packets) in
    let longer : length (front ++ text) ≡ at + need_of_packet packet =
    omega (arith, length-append front text, length-packet_text (need_of_packet packet) packet) in
    let ih = last_closed (at + need_of_packet packet) (front ++ text) (next ∷ packets) rest longer (omega arith) in
    ap (put (last_place (at + need_of_packet packet) (next ∷ packets)) (little_bytes 4 0)) (sym (four front text more rest))
    ∙ ih ∙ four front text whole rest

-- the fields of the descriptor
head_closed : (shape : RingRequest) (number status : ℕ) (packets : List Packet)
    → put 32 (closing_times (closing_of shape status packets))
    (put 20 (little_bytes 4 (end_of shape packets))
    (put 8 (little_bytes 4 status ++ little_bytes 4 (length packets)) (open_header shape number)))
    ≡ descriptor_text shape (descriptor_of shape number status packets)
unfolding open_header descriptor_text closing_times bytes_of
head_closed shape number status packets = refl

pub length-header : (shape : RingRequest) (number : ℕ) → length (open_header shape number) ≡ first_of shape
unfolding open_header
length-header shape number = length-descriptor shape (empty_descriptor shape number)

length-times : (closing : Closing) → length (closing_times closing) ≡ 16
unfolding closing_times
length-times closing = refl

-- bytes that begin with an open block begin with the text of the retired one
pub closed_text : (shape : RingRequest) (number status : ℕ) (packets : List Packet) (bytes : List ℕ)
    → take (length (open_text shape number packets)) bytes ≡ open_text shape number packets → 0 < length packets
    → closed (closing_of shape status packets) bytes ≡ block_text shape number status packets
    ++ drop (length (open_text shape number packets)) bytes
unfolding closed open_text block_text
closed_text shape number status packets bytes e some =
    let header = open_header shape number in
    let body = open_packets packets in
    let rest = drop (length (header ++ body)) bytes in
    let closing = closing_of shape status packets in
    let size = length-header shape number in
    let so : bytes ≡ header ++ (body ++ rest) = split (header ++ body) bytes e ∙ append_assoc header body rest in
    let desc = descriptor_text shape (descriptor_of shape number status packets) in
    let one = put-left 8 (little_bytes 4 status ++ little_bytes 4 (length packets)) header (body ++ rest)
    (omega (arith, size)) in
    let h1 = put 8 (little_bytes 4 status ++ little_bytes 4 (length packets)) header in
    let s1 : length h1 ≡ first_of shape =
    length-put 8 (little_bytes 4 status ++ little_bytes 4 (length packets)) header (omega (arith, size)) ∙ size in
    let two = put-left 20 (little_bytes 4 (end_of shape packets)) h1 (body ++ rest) (omega (arith, s1)) in
    let h2 = put 20 (little_bytes 4 (end_of shape packets)) h1 in
    let s2 : length h2 ≡ first_of shape = length-put 20 (little_bytes 4 (end_of shape packets)) h1 (omega (arith, s1)) ∙ s1 in
    let times = length-times closing in
    let three = put-left 32 (closing_times closing) h2 (body ++ rest) (omega (arith, s2, times)) in
    let head : put 32 (closing_times closing)
    (put 20 (little_bytes 4 (end_of shape packets))
    (put 8 (little_bytes 4 status ++ little_bytes 4 (length packets)) bytes)) ≡ desc ++ (body ++ rest) =
    ap (λ (xs : List ℕ). put 32 (closing_times closing)
    (put 20 (little_bytes 4 (end_of shape packets)) (put 8 (little_bytes 4 status ++ little_bytes 4 (length packets)) xs)))
    so
    ∙ ap (λ (xs : List ℕ). put 32 (closing_times closing) (put 20 (little_bytes 4 (end_of shape packets)) xs)) one
    ∙ ap (put 32 (closing_times closing)) two ∙ three
    ∙ ap (λ (xs : List ℕ). xs ++ (body ++ rest)) (head_closed shape number status packets) in
    ap (put (last_place (first_of shape) packets) (little_bytes 4 0)) head
    ∙ last_closed (first_of shape) desc packets rest (length-descriptor shape (descriptor_of shape number status packets)) some
    ∙ sym (append_assoc desc (packets_text packets) rest)

-- the close of an open block
pub closes : (shape : RingRequest) (number : ℕ) (closing : Closing) (packets : List Packet) (bytes : List ℕ)
    → length bytes ≡ shape.block_size
    → IsOpen shape number packets bytes → 0 < number → 0 < length packets → closing ≡ closing_of shape closing.status packets
    → IsTrue (is_status closing.status)
    → BeginsWith shape number closing.status packets (closed closing bytes)
closes shape number closing packets bytes size is_open numbered some e retired =
    let text = closed_text shape number closing.status packets bytes is_open.begins some in
    let so : closed closing bytes ≡ block_text shape number closing.status packets
    ++ drop (length (open_text shape number packets)) bytes =
    ap (λ (x : Closing). closed x bytes) e ∙ text in
    record {
      lawful = record {
        numbered = numbered;
        small = is_open.small;
        retired = retired;
        some = some;
        each = is_open.each;
        fits = omega (
          arith,
          within (open_text shape number packets) bytes is_open.begins,
          length-open_text shape number packets,
          size,
        );
      };
      begins = rw so (begins (block_text shape number closing.status packets) _);
    }
