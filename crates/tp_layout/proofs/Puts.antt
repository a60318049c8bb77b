-- Bytes written over others, one piece after another.
use Rattle.std.proofs.Common.{◌≡◌, ℕ, zero, suc, ◌+◌, ◌-◌, ◌≤◌, List, [], ◌∷◌, ◌++◌, length, take, drop, replicate, refl, sym}
use Rattle.std.proofs.Common.{ap, ◌∙◌, arith, append_assoc}
use Rattle.std.proofs.lemmas.List.{length-append, length-take, length-drop, length-replicate, take_at, take-take}
use Rattle.std.proofs.lemmas.List.{take-append-le, drop_at, drop-drop}
use Rattle.std.proofs.lemmas.List.{take-append-drop, replicate-append-replicate}
use Rattle.byteorder.specs.Endian.{little_bytes}
use Rattle.byteorder.specs.Numbers.{length-bytes_low_first}
use Rattle.frame_view.specs.declared.frames.Packet.{Packet}
use Rattle.ring_model.specs.Sizes.{need_of}
use Rattle.tp_layout.specs.Rows.{Row, zeros, bytes_of, size_of_rows}
use Rattle.tp_layout.specs.Packets.{header_rows, address_rows, packet_rows, padding_rows, packet_text, need_of_packet}
use Rattle.tp_layout.specs.BlockWrites.{put}

pub length-put : (at : ℕ) (text bytes : List ℕ) → at + length text ≤ length bytes → length (put at text bytes) ≡ length bytes
length-put at text bytes fits =
    omega (
      arith,
      length-append (take at bytes) (text ++ drop (at + length text) bytes),
      length-append text (drop (at + length text) bytes),
      length-take at bytes,
      length-drop (at + length text) bytes,
    )

-- what was written so far, from one place on
pub record IsPut (at : ℕ) (text old new : List ℕ) : Type 0 where
  pub is : new ≡ put at text old
  pub fits : at + length text ≤ length old

pub nothing : (at : ℕ) (old : List ℕ) → at ≤ length old → IsPut at [] old old
nothing at old fits =
    let place : at + 0 ≡ at = omega arith in
    record { is = sym (ap (λ (n : ℕ). take at old ++ drop n old) place ∙ take-append-drop at old); fits = omega arith }

put_put : (at : ℕ) (first second bytes : List ℕ) → at + length first + length second ≤ length bytes
    → put (at + length first) second (put at first bytes) ≡ put at (first ++ second) bytes
put_put at first second bytes fits =
    let front = take at bytes in
    let rest = drop (at + length first) bytes in
    let size : length (front ++ first) ≡ at + length first = omega (arith, length-append front first, length-take at bytes) in
    let same : put at first bytes ≡ (front ++ first) ++ rest = sym (append_assoc front first rest) in
    let left : take (at + length first) (put at first bytes) ≡ front ++ first =
    ap (take (at + length first)) same ∙ take_at (front ++ first) rest _ size in
    let right : drop (at + length first + length second) (put at first bytes) ≡ drop (at + length first + length second) bytes =
    sym (drop-drop (length second) (at + length first) (put at first bytes))
    ∙ ap (drop (length second)) (ap (drop (at + length first)) same ∙ drop_at (front ++ first) rest _ size)
    ∙ drop-drop (length second) (at + length first) bytes in
    let sum : at + length first + length second ≡ at + length (first ++ second) = omega (arith, length-append first second) in
    rw (left, right, sum) (append_assoc front first (second ++ drop (at + length (first ++ second)) bytes)
    ∙ ap (λ (xs : List ℕ). front ++ xs) (sym (append_assoc first second (drop (at + length (first ++ second)) bytes))))

-- one more piece
pub piece : {at : ℕ} {text old mid new : List ℕ} → IsPut at text old mid → (place : ℕ) (more : List ℕ)
    → place ≡ at + length text
    → at + length text + length more ≤ length old → new ≡ put place more mid → IsPut at (text ++ more) old new
piece {at} {text} {old} {mid} {new} so place more here fits e =
    record {
      is = e ∙ ap (λ (p : ℕ). put p more mid) here ∙ ap (put (at + length text) more) so.is ∙ put_put at text more old fits;
      fits = omega (arith, length-append text more, fits);
    }

-- all that was written
pub all : {at : ℕ} {text old new : List ℕ} → IsPut at text old new → (whole : List ℕ) → text ≡ whole → new ≡ put at whole old
all {at} {text} {old} {new} so whole e = so.is ∙ ap (λ (xs : List ℕ). put at xs old) e

-- the bytes of a run of zeros
pub bytes_of-zeros : (at n : ℕ) → bytes_of (zeros at n) ≡ replicate n 0
unfolding bytes_of
bytes_of-zeros at zero = refl
bytes_of-zeros at (suc n) = ap (λ (xs : List ℕ). 0 ∷ xs) (bytes_of-zeros (at + 1) n)

-- the bytes of two tables, one after another
pub bytes_of-append : (rows more : List Row) → bytes_of (rows ++ more) ≡ bytes_of rows ++ bytes_of more
unfolding bytes_of
bytes_of-append [] more = refl
bytes_of-append (r ∷ rows) more =
    ap (λ (xs : List ℕ). little_bytes r.size r.value ++ xs) (bytes_of-append rows more)
    ∙ sym (append_assoc (little_bytes r.size r.value) (bytes_of rows) (bytes_of more))

pub length-bytes_of : (rows : List Row) → length (bytes_of rows) ≡ size_of_rows rows
unfolding bytes_of
length-bytes_of [] = refl
length-bytes_of (r ∷ rows) =
    omega (
      arith,
      length-append (little_bytes r.size r.value) (bytes_of rows),
      length-bytes_low_first 0 r.size r.value,
      length-bytes_of rows,
    )

-- the bytes before the data of a packet
pub packet_rows-bytes : (next : ℕ) (packet : Packet)
    → bytes_of (packet_rows next packet) ≡ bytes_of (header_rows next packet)
    ++ (replicate 8 0 ++ (bytes_of (address_rows packet) ++ replicate 16 0))
unfolding packet_rows
packet_rows-bytes next packet =
    rw (bytes_of-append, bytes_of-append, bytes_of-append, bytes_of-zeros, bytes_of-zeros) refl

pub length-header : (next : ℕ) (packet : Packet) → length (bytes_of (header_rows next packet)) ≡ 40
length-header next packet = length-bytes_of (header_rows next packet)

pub length-address : (packet : Packet) → length (bytes_of (address_rows packet)) ≡ 18
length-address packet = length-bytes_of (address_rows packet)

pub length-packet_rows : (next : ℕ) (packet : Packet) → length (bytes_of (packet_rows next packet)) ≡ 82
unfolding packet_rows
length-packet_rows next packet = length-bytes_of (packet_rows next packet)

-- the length of a packet's text
pub length-packet_text : (next : ℕ) (packet : Packet) → length (packet_text next packet) ≡ need_of_packet packet
unfolding packet_text
length-packet_text next packet =
    let snap = length packet.bytes in
    omega (
      arith,
      length-append (bytes_of (packet_rows next packet)) (packet.bytes ++ bytes_of (padding_rows snap)),
      length-append packet.bytes (bytes_of (padding_rows snap)),
      length-packet_rows next packet,
      ap length (bytes_of-zeros (82 + snap) (need_of snap - (82 + snap))),
      length-replicate {A = ℕ} (need_of snap - (82 + snap)) 0,
    )

regroup : (a b c d e f : List ℕ) → ((((a ++ b) ++ c) ++ d) ++ e) ++ f ≡ (a ++ (b ++ (c ++ d))) ++ (e ++ f)
regroup a b c d e f = simp append_assoc refl

-- n zeros over which bytes were written, except the last k
zeros_after : (at q n k : ℕ) (text old : List ℕ) → at ≤ q → k ≤ n → q + n ≡ at + length text + k → q + n ≤ length old
    → put at text (put q (replicate n 0) old) ≡ put at (text ++ replicate k 0) old
zeros_after at q n k text old order few sum fits =
    let front = take q old in
    let rest = drop (q + length (replicate {A = ℕ} n 0)) old in
    let m = n - k in
    let size : length front ≡ q = omega (arith, length-take q old) in
    let left : take at (front ++ (replicate n 0 ++ rest)) ≡ take at old =
    take-append-le at front (replicate n 0 ++ rest) (omega (arith, size)) ∙ take-take at q old order in
    let place : at + length text ≡ q + m = omega arith in
    let whole : n ≡ m + k = omega arith in
    let split : replicate {A = ℕ} n 0 ≡ replicate m 0 ++ replicate k 0 =
    ap (λ (i : ℕ). replicate {A = ℕ} i 0) whole ∙ sym (replicate-append-replicate m k 0) in
    let back : drop (at + length text) (front ++ (replicate n 0 ++ rest)) ≡ replicate k 0 ++ rest =
    ap (λ (i : ℕ). drop i (front ++ (replicate n 0 ++ rest))) place
    ∙ sym (drop-drop m q (front ++ (replicate n 0 ++ rest)))
    ∙ ap (drop m) (drop_at front (replicate n 0 ++ rest) q size
    ∙ ap (λ (xs : List ℕ). xs ++ rest) split
    ∙ append_assoc (replicate m 0) (replicate k 0) rest)
    ∙ drop_at (replicate m 0) (replicate k 0 ++ rest) m (length-replicate {A = ℕ} m 0) in
    let end : q + length (replicate {A = ℕ} n 0) ≡ at + length (text ++ replicate k 0) =
    omega (
      arith,
      length-append text (replicate k 0),
      length-replicate {A = ℕ} n 0,
      length-replicate {A = ℕ} k 0,
    ) in
    rw (left, back)
    (ap (λ (i : ℕ). take at old ++ (text ++ (replicate k 0 ++ drop i old))) end
    ∙ ap (λ (xs : List ℕ). take at old ++ xs)
    (sym (append_assoc text (replicate k 0) (drop (at + length (text ++ replicate k 0)) old))))

-- the six pieces of a packet, of which the zeros at its end are the first
pub packet_put : (at next : ℕ) (packet : Packet) (old zeros one two three four five : List ℕ)
    → at + need_of_packet packet ≤ length old
    → zeros ≡ put (at + (need_of_packet packet - 8)) (replicate 8 0) old
    → one ≡ put at (bytes_of (header_rows next packet)) zeros
    → two ≡ put (at + 40) (replicate 8 0) one
    → three ≡ put (at + 48) (bytes_of (address_rows packet)) two
    → four ≡ put (at + 66) (replicate 16 0) three
    → five ≡ put (at + 82) packet.bytes four
    → five ≡ put at (packet_text next packet) old
unfolding packet_text
packet_put at next packet old zeros one two three four five fits e0 e1 e2 e3 e4 e5 =
    let header = bytes_of (header_rows next packet) in
    let address = bytes_of (address_rows packet) in
    let snap = length packet.bytes in
    let need = need_of_packet packet in
    let padding : List ℕ = replicate (need - (82 + snap)) 0 in
    let eight : List ℕ = replicate 8 0 in
    let sixteen : List ℕ = replicate 16 0 in
    let h0 : length zeros ≡ length old =
    ap length e0 ∙ length-put (at + (need - 8)) eight old (omega arith) in
    let h1 = length-header next packet in
    let h2 : length (header ++ eight) ≡ 48 = omega (arith, h1, length-append header eight) in
    let h3 : length ((header ++ eight) ++ address) ≡ 66 =
    omega (arith, h2, length-address packet, length-append (header ++ eight) address) in
    let h4 : length (((header ++ eight) ++ address) ++ sixteen) ≡ 82 =
    omega (arith, h3, length-append ((header ++ eight) ++ address) sixteen) in
    let h5 : length ((((header ++ eight) ++ address) ++ sixteen) ++ packet.bytes) ≡ 82 + snap =
    omega (arith, h4, length-append (((header ++ eight) ++ address) ++ sixteen) packet.bytes) in
    let p0 = nothing at zeros (omega (arith, h0)) in
    let p1 = piece p0 at header (omega arith) (omega (arith, h0, h1)) e1 in
    let p2 = piece p1 (at + 40) eight (omega (arith, h1)) (omega (arith, h0, h1)) e2 in
    let p3 = piece p2 (at + 48) address (omega (arith, h2)) (omega (arith, h0, h2, length-address packet)) e3 in
    let p4 = piece p3 (at + 66) sixteen (omega (arith, h3)) (omega (arith, h0, h3)) e4 in
    let p5 = piece p4 (at + 82) packet.bytes (omega (arith, h4)) (omega (arith, h0, h4)) e5 in
    let text = (((header ++ eight) ++ address) ++ sixteen) ++ packet.bytes in
    p5.is
    ∙ ap (put at text) e0
    ∙ zeros_after at (at + (need - 8)) 8 (need - (82 + snap)) text old (omega arith) (omega arith) (omega (arith, h5))
    (omega arith)
    ∙ ap (λ (xs : List ℕ). put at xs old)
    (regroup header eight address sixteen packet.bytes padding
    ∙ sym (rw (packet_rows-bytes, bytes_of-zeros) refl))
