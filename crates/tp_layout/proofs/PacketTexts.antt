-- The text of a packet is what passes the tests.
use Rattle.std.proofs.Common.{◌≡◌, ℕ, zero, suc, ◌+◌, ◌-◌, ◌/◌, ◌%◌, ◌^◌, ◌≤◌, ◌<◌, Bool, true, false, List, ◌++◌, length, take}
use Rattle.std.proofs.Common.{drop, refl, sym, ap, ◌∙◌, inl, inr, arith, append_assoc}
use Rattle.std.specs.Prelude.{◌==◌, ◌&&◌, nat_le, slice_index, if◌then◌else◌, IfSome, IsTrue, Option, None, Some}
use Rattle.std.proofs.Math.Seq.{take-add}
use Rattle.std.proofs.lemmas.Bool.{cases_Bool, eq-eqb, eqb-true, le-leb, leb-true, and_parts, and_from, or_cases}
use Rattle.std.proofs.lemmas.List.{length-append, length-drop, length-take-le, drop-drop, drop_at, take_at}
use Rattle.frame_view.specs.Headers.{address_of}
use Rattle.frame_view.specs.Vlan.{is_tpid}
use Rattle.frame_view.specs.declared.frames.Packet.{Packet}
use Rattle.frame_view.specs.declared.frames.Tag.{Tag}
use Rattle.ring_model.specs.Sizes.{need_of}
use Rattle.tp_layout.specs.declared.error.LayoutError.{LayoutError}
use Rattle.tp_layout.specs.declared.error.LayoutKind.{LayoutKind}
use Rattle.tp_layout.specs.Rows.{zeros, number_at, network_at, bytes_of}
use Rattle.tp_layout.specs.Packets.{status_of_tag, tci_of, tpid_of, tpid_may, header_rows, address_rows, packet_rows}
use Rattle.tp_layout.specs.Packets.{padding_rows, packet_text, need_of_packet, IsLawfulPacket, tag_at, packet_at, need_at}
use Rattle.tp_layout.specs.Faults.{snap_may, next_of}
use Rattle.tp_layout.specs.Checks.{unless, header_tests, address_tests, packet_tests}
use Rattle.tp_layout.proofs.Bytes.{IsBytes, number_fits, number_one, network_two, six_bytes, are_bytes, all_bytes}
use Rattle.tp_layout.proofs.Chains.{fixed_tests_are}
use Rattle.tp_layout.proofs.Walks.{Front, front_tests, unless_none, or_none}
use Rattle.tp_layout.proofs.Puts.{bytes_of-append, length-packet_rows, length-packet_text, length-bytes_of}
use Rattle.tp_layout.proofs.Tables.{AllRead, AllFit, bytes_read, read_bytes, rows_read, zeros_read, zeros_passed, zeros_fit}
use Rattle.tp_layout.proofs.Tables.{size_of_zeros, behind}

-- ---- what passes is a text

-- what is known of a packet that passed its tests
pub record Reads (last : Bool) (bytes : List ℕ) : Type 0 where
  pub text : take (need_at bytes) bytes ≡ packet_text (next_of last bytes) (packet_at bytes)
  pub lawful : IsLawfulPacket (packet_at bytes)
  pub snap : length (packet_at bytes).bytes ≡ number_at 4 12 bytes

-- the bounds that the header's tests keep
header_bounds : (at next : ℕ) (bytes : List ℕ) → header_tests at next bytes ≡ None
    → (number_at 4 8 bytes ≤ 999999999) × (tpid_may (tag_at bytes) ≡ true)
unfolding header_tests
header_bounds at next bytes e =
    let a = unless_none (number_at 4 0 bytes == next) _ _ _ e in
    let b = unless_none (nat_le (number_at 4 8 bytes) 999999999) _ _ _ a.1 in
    let c = unless_none (number_at 4 20 bytes == status_of_tag (tag_at bytes)) _ _ _ b.1 in
    let d = unless_none (number_at 2 24 bytes == 82) _ _ _ c.1 in
    let f = unless_none (number_at 2 26 bytes == 96) _ _ _ d.1 in
    let g = unless_none (number_at 4 32 bytes == tci_of (tag_at bytes)) _ _ _ f.1 in
    let h = unless_none ((number_at 2 36 bytes == tpid_of (tag_at bytes)) && tpid_may (tag_at bytes)) _ _ _ g.1 in
    (leb-true _ _ b.0, (and_parts (number_at 2 36 bytes == tpid_of (tag_at bytes)) (tpid_may (tag_at bytes)) h.0).1)

-- the bound that the address's tests keep
address_bound : (at : ℕ) (bytes : List ℕ) → address_tests at 48 bytes ≡ None → number_at 1 58 bytes ≤ 3
unfolding address_tests
address_bound at bytes e =
    let a = unless_none (number_at 2 48 bytes == 17) _ _ _ e in
    let b = unless_none (number_at 4 52 bytes == 1) _ _ _ a.1 in
    let c = unless_none (number_at 2 56 bytes == 1) _ _ _ b.1 in
    let d = unless_none (nat_le (number_at 1 58 bytes) 3) _ _ _ c.1 in
    leb-true _ _ d.0

-- a tag whose header passed
tag_lawful : (tag : Option Tag) → tpid_may tag ≡ true → IfSome tag (λ tag. IsTrue (is_tpid tag.tpid))
tag_lawful None e = tt
tag_lawful (Some tag) e = e

tag_typed : (bytes : List ℕ) → IfSome (tag_at bytes) (λ tag. tag.tci < 2 ^ 16)
tag_typed bytes =
    elim (cases_Bool (number_at 4 20 bytes == 81)) [
      | inl has ↦ rw has (omega arith)
      | inr other ↦ rw other tt
    ]

address_small : (bytes : List ℕ) → IsBytes bytes → IsBytes (address_of 60 bytes)
address_small bytes h zero = h 60
address_small bytes h (suc zero) = h 61
address_small bytes h (suc (suc zero)) = h 62
address_small bytes h (suc (suc (suc zero))) = h 63
address_small bytes h (suc (suc (suc (suc zero)))) = h 64
address_small bytes h (suc (suc (suc (suc (suc zero))))) = h 65
address_small bytes h (suc (suc (suc (suc (suc (suc i)))))) = omega arith

pub reads : (last : Bool) (at : ℕ) (bytes : List ℕ) → IsBytes bytes → Front last at bytes → Reads last bytes
unfolding packet_at packet_text
reads last at bytes h first =
    let snap = number_at 4 12 bytes in
    let within = first.within in
    let next = next_of last bytes in
    let packet = packet_at bytes in
    let room : 82 + snap ≤ length bytes = omega arith in
    let kept : length (take snap (drop 82 bytes)) ≡ snap =
    length-take-le snap (drop 82 bytes) (omega (arith, length-drop 82 bytes)) in
    let rows = rows_read at 0 (packet_rows next packet) bytes (fixed_tests_are at next bytes h room ∙ first.fixed) in
    let front : take 82 bytes ≡ bytes_of (packet_rows next packet) =
    ap (λ (n : ℕ). take n bytes) (sym (sym (length-bytes_of (packet_rows next packet)) ∙ length-packet_rows next packet))
    ∙ bytes_read 0 (packet_rows next packet) bytes h
    (omega (arith, first.header, sym (length-bytes_of (packet_rows next packet)) ∙ length-packet_rows next packet)) rows in
    let size = size_of_zeros (82 + snap) (need_of snap - (82 + snap)) in
    let padding : take (need_of snap - (82 + snap)) (drop (82 + snap) bytes) ≡ bytes_of (padding_rows snap) =
    ap (λ (n : ℕ). take n (drop (82 + snap) bytes)) (sym size)
    ∙ bytes_read (82 + snap) (padding_rows snap) bytes h (omega (arith, size, within))
    (zeros_read at (82 + snap) (need_of snap - (82 + snap)) bytes first.padding) in
    let sum : need_of snap ≡ 82 + (snap + (need_of snap - (82 + snap))) = omega arith in
    let cut : take (need_of snap) bytes ≡ take 82 bytes
    ++ (take snap (drop 82 bytes) ++ take (need_of snap - (82 + snap)) (drop (82 + snap) bytes)) =
    ap (λ (n : ℕ). take n bytes) sum
    ∙ take-add 82 (snap + (need_of snap - (82 + snap))) bytes
    ∙ ap (λ (xs : List ℕ). take 82 bytes ++ xs) (take-add snap (need_of snap - (82 + snap)) (drop 82 bytes)
    ∙ ap (λ (xs : List ℕ). take snap (drop 82 bytes) ++ take (need_of snap - (82 + snap)) xs) (drop-drop snap 82 bytes)) in
    let fixed = or_none _ _ first.fixed in
    let rest = or_none _ _ (or_none _ _ fixed.1).1 in
    let bounds = header_bounds at next bytes fixed.0 in
    record {
      text = cut ∙ rw (front, padding, kept) refl;
      lawful = record {
        some = rw kept first.some;
        captured = rw kept first.wire;
        nsec = bounds.0;
        pkttype = address_bound at bytes rest.0;
        tag = tag_lawful (tag_at bytes) bounds.1;
        typed = record {
          sec = number_fits 4 4 bytes h;
          wire = number_fits 4 16 bytes h;
          rxhash = number_fits 4 28 bytes h;
          protocol = rw (network_two 50 bytes) (omega (arith, h 50, h 51));
          six = refl;
          addr = all_bytes (address_of 60 bytes) (address_small bytes h);
          tci = tag_typed bytes;
        };
      };
      snap = kept;
    }

-- ---- a text passes

pub pass : (test : Bool) (kind : LayoutKind) (at : ℕ) (rest : Option LayoutError) → test ≡ true → rest ≡ None
    → unless test kind at rest ≡ None
pass test kind at rest e more = rw (e, more) refl

small_tci : (tag : Option Tag) → IfSome tag (λ tag. tag.tci < 2 ^ 16) → tci_of tag < 256 ^ 4
small_tci None h = omega arith
small_tci (Some tag) h = omega (arith, h)

small_tpid : (tag : Option Tag) → IfSome tag (λ tag. IsTrue (is_tpid tag.tpid)) → tpid_of tag < 256 ^ 2
small_tpid None h = omega arith
small_tpid (Some tag) h =
    elim (or_cases (tag.tpid == 0x8100) (tag.tpid == 0x88a8) h) [
      | inl customer ↦ let e = eqb-true tag.tpid 0x8100 customer in omega (arith, e)
      | inr service ↦ let e = eqb-true tag.tpid 0x88a8 service in omega (arith, e)
    ]

small_status : (tag : Option Tag) → status_of_tag tag < 256 ^ 4
small_status None = omega arith
small_status (Some tag) = omega arith

may_tpid : (tag : Option Tag) → IfSome tag (λ tag. IsTrue (is_tpid tag.tpid)) → tpid_may tag ≡ true
may_tpid None h = refl
may_tpid (Some tag) h = h

header_fit : (next : ℕ) (packet : Packet) → next < 2 ^ 32 → IsLawfulPacket packet → AllFit (header_rows next packet)
header_fit next packet small lawful =
    let typed = lawful.typed in
    let wire = typed.wire in
    let nsec = lawful.nsec in
    let captured = lawful.captured in (
      small,
      (
        typed.sec,
        (
          omega arith,
          (
            omega arith,
            (
              wire,
              (
                small_status packet.tag,
                (
                  omega arith,
                  (
                    omega arith,
                    (
                      typed.rxhash,
                      (small_tci packet.tag typed.tci, (small_tpid packet.tag lawful.tag, (omega arith, tt))),
                    ),
                  ),
                ),
              ),
            ),
          ),
        ),
      ),
    )

address_fit : (packet : Packet) → IsLawfulPacket packet → AllFit (address_rows packet)
address_fit packet lawful =
    let small = are_bytes packet.addr lawful.typed.addr in
    let protocol = lawful.typed.protocol in
    let kind = lawful.pkttype in (
      omega arith,
      (
        omega arith,
        (
          omega arith,
          (
            omega arith,
            (
              omega arith,
              (
                omega arith,
                (
                  omega arith,
                  (small 0, (small 1, (small 2, (small 3, (small 4, (small 5, tt)))))),
                ),
              ),
            ),
          ),
        ),
      ),
    )

-- the numbers of a packet's header, address and zeros
record Numbers (next : ℕ) (packet : Packet) (bytes rest : List ℕ) : Type 0 where
  header : AllRead 0 (header_rows next packet) bytes
  nothing : AllRead 40 (zeros 40 8) bytes
  address : AllRead 48 (address_rows packet) bytes
  gap : AllRead 66 (zeros 66 16) bytes
  left : drop 82 bytes ≡ packet.bytes ++ (bytes_of (padding_rows (length packet.bytes)) ++ rest)

numbers : (next : ℕ) (packet : Packet) (bytes rest : List ℕ) → next < 2 ^ 32 → IsLawfulPacket packet
    → bytes ≡ packet_text next packet ++ rest
    → Numbers next packet bytes rest
unfolding packet_text packet_rows
numbers next packet bytes rest small lawful e =
    let after = packet.bytes ++ (bytes_of (padding_rows (length packet.bytes)) ++ rest) in
    let header = header_rows next packet in
    let address = address_rows packet in
    let padded : (packet.bytes ++ bytes_of (padding_rows (length packet.bytes))) ++ rest ≡ after =
    append_assoc packet.bytes _ rest in
    let whole : bytes ≡ bytes_of header ++ (bytes_of (zeros 40 8) ++ (bytes_of address ++ (bytes_of (zeros 66 16) ++ after))) =
    e ∙ rw (
      bytes_of-append header (zeros 40 8 ++ (address ++ zeros 66 16)),
      bytes_of-append (zeros 40 8) (address ++ zeros 66 16),
      bytes_of-append address (zeros 66 16),
    )
    (simp append_assoc refl) in
    let b : drop 40 bytes ≡ bytes_of (zeros 40 8) ++ (bytes_of address ++ (bytes_of (zeros 66 16) ++ after)) =
    behind 0 header bytes _ whole in
    let c : drop 48 bytes ≡ bytes_of address ++ (bytes_of (zeros 66 16) ++ after) = behind 40 (zeros 40 8) bytes _ b in
    let d : drop 66 bytes ≡ bytes_of (zeros 66 16) ++ after = behind 48 address bytes _ c in
    record {
      header = read_bytes 0 header bytes _ (header_fit next packet small lawful) whole;
      nothing = read_bytes 40 (zeros 40 8) bytes _ (zeros_fit 40 8) b;
      address = read_bytes 48 address bytes _ (address_fit packet lawful) c;
      gap = read_bytes 66 (zeros 66 16) bytes _ (zeros_fit 66 16) d;
      left = behind 66 (zeros 66 16) bytes _ d;
    }

tag_back : (tag : Option Tag) (bytes : List ℕ) → IfSome tag (λ tag. tag.tci < 2 ^ 16)
    → number_at 4 20 bytes ≡ status_of_tag tag → number_at 4 32 bytes ≡ tci_of tag → number_at 2 36 bytes ≡ tpid_of tag
    → tag_at bytes ≡ tag
tag_back None bytes h status tci tpid = rw status refl
tag_back (Some tag) bytes h status tci tpid =
    let low : tag.tci % 65536 ≡ tag.tci = omega (arith, h) in
    rw (status, tci, tpid, low) refl

-- the bytes there are a packet's text
pub record PassesTests (last : Bool) (at : ℕ) (packet : Packet) (bytes : List ℕ) : Type 0 where
  pub packet_is : packet_at bytes ≡ packet
  pub need_is : need_at bytes ≡ need_of_packet packet
  pub tests : packet_tests last at bytes ≡ None

-- what the offset to the next packet is
abbrev pub next_in : Bool → Packet → ℕ
next_in last packet = if last then 0 else need_of_packet packet

next_small : (last : Bool) (packet : Packet) → need_of_packet packet ≤ 1048576 → next_in last packet < 2 ^ 32
next_small true packet small = omega arith
next_small false packet small = omega (arith, small)

next_same : (last : Bool) (packet : Packet) (bytes : List ℕ) → need_at bytes ≡ need_of_packet packet
    → next_of last bytes ≡ next_in last packet
next_same true packet bytes e = refl
next_same false packet bytes e = e

pub passes_tests : (last : Bool) (at : ℕ) (packet : Packet) (bytes rest : List ℕ) → need_of_packet packet ≤ 1048576
    → IsLawfulPacket packet
    → bytes ≡ packet_text (next_in last packet) packet ++ rest → PassesTests last at packet bytes
unfolding packet_at header_tests address_tests
passes_tests last at packet bytes rest small lawful e =
    let next = next_in last packet in
    let n = numbers next packet bytes rest (next_small last packet small) lawful e in
    let h = n.header in
    let a = n.address in
    let snap = h.1.1.1.0 in
    let tag = tag_back packet.tag bytes lawful.typed.tci h.1.1.1.1.1.0 h.1.1.1.1.1.1.1.1.1.0 h.1.1.1.1.1.1.1.1.1.1.0 in
    let high : slice_index bytes 50 ≡ packet.protocol / 256 = sym (number_one 50 bytes) ∙ a.1.0 in
    let low : slice_index bytes 51 ≡ packet.protocol % 256 = sym (number_one 51 bytes) ∙ a.1.1.0 in
    let protocol : network_at 2 50 bytes ≡ packet.protocol = network_two 50 bytes ∙ rw (high, low) (omega arith) in
    let b0 : slice_index bytes 60 ≡ slice_index packet.addr 0 = sym (number_one 60 bytes) ∙ a.1.1.1.1.1.1.1.0 in
    let b1 : slice_index bytes 61 ≡ slice_index packet.addr 1 = sym (number_one 61 bytes) ∙ a.1.1.1.1.1.1.1.1.0 in
    let b2 : slice_index bytes 62 ≡ slice_index packet.addr 2 = sym (number_one 62 bytes) ∙ a.1.1.1.1.1.1.1.1.1.0 in
    let b3 : slice_index bytes 63 ≡ slice_index packet.addr 3 = sym (number_one 63 bytes) ∙ a.1.1.1.1.1.1.1.1.1.1.0 in
    let b4 : slice_index bytes 64 ≡ slice_index packet.addr 4 = sym (number_one 64 bytes) ∙ a.1.1.1.1.1.1.1.1.1.1.1.0 in
    let b5 : slice_index bytes 65 ≡ slice_index packet.addr 5 = sym (number_one 65 bytes) ∙ a.1.1.1.1.1.1.1.1.1.1.1.1.0 in
    let addr : address_of 60 bytes ≡ packet.addr = rw (b0, b1, b2, b3, b4, b5) (sym (six_bytes packet.addr lawful.typed.six)) in
    let kept : take (number_at 4 12 bytes) (drop 82 bytes) ≡ packet.bytes =
    rw (snap, n.left) (take_at packet.bytes (bytes_of (padding_rows (length packet.bytes)) ++ rest)
    (length packet.bytes) refl) in
    let size : length bytes ≡ need_of_packet packet + length rest =
    ap length e ∙ omega (arith, length-append (packet_text next packet) rest, length-packet_text next packet) in
    let some = lawful.some in
    let need : need_at bytes ≡ need_of_packet packet = ap need_of snap in
    let long : 88 ≤ length bytes = omega (arith, size) in
    let may : snap_may bytes ≡ true =
    and_from _ _ (and_from _ _ (le-leb 1 (number_at 4 12 bytes) (rw snap some))
    (le-leb (number_at 4 12 bytes) (number_at 4 16 bytes) (rw (snap, h.1.1.1.1.0) lawful.captured)))
    (le-leb (need_at bytes) (length bytes) (omega (arith, need, size))) in
    let here = next_same last packet bytes need in
    let header : header_tests at (next_of last bytes) bytes ≡ None =
    pass (number_at 4 0 bytes == next_of last bytes) _ _ _ (eq-eqb _ _ (h.0 ∙ sym here))
    (pass (nat_le (number_at 4 8 bytes) 999999999) _ _ _ (le-leb (number_at 4 8 bytes) 999999999 (rw h.1.1.0 lawful.nsec))
    (pass (number_at 4 20 bytes == status_of_tag (tag_at bytes)) _ _ _ (eq-eqb _ _ (h.1.1.1.1.1.0 ∙ ap status_of_tag (sym tag)))
    (pass (number_at 2 24 bytes == 82) _ _ _ (eq-eqb _ _ h.1.1.1.1.1.1.0)
    (pass (number_at 2 26 bytes == 96) _ _ _ (eq-eqb _ _ h.1.1.1.1.1.1.1.0)
    (pass (number_at 4 32 bytes == tci_of (tag_at bytes)) _ _ _ (eq-eqb _ _ (h.1.1.1.1.1.1.1.1.1.0 ∙ ap tci_of (sym tag)))
    (pass ((number_at 2 36 bytes == tpid_of (tag_at bytes)) && tpid_may (tag_at bytes)) _ _ _
    (and_from _ _ (eq-eqb _ _ (h.1.1.1.1.1.1.1.1.1.1.0 ∙ ap tpid_of (sym tag)))
    (ap tpid_may tag ∙ may_tpid packet.tag lawful.tag))
    (pass (number_at 2 38 bytes == 0) _ _ _ (eq-eqb _ _ h.1.1.1.1.1.1.1.1.1.1.1.0) refl))))))) in
    let address : address_tests at 48 bytes ≡ None =
    pass (number_at 2 48 bytes == 17) _ _ _ (eq-eqb _ _ a.0)
    (pass (number_at 4 52 bytes == 1) _ _ _ (eq-eqb _ _ a.1.1.1.0)
    (pass (number_at 2 56 bytes == 1) _ _ _ (eq-eqb _ _ a.1.1.1.1.0)
    (pass (nat_le (number_at 1 58 bytes) 3) _ _ _ (le-leb (number_at 1 58 bytes) 3 (rw a.1.1.1.1.1.0 lawful.pkttype))
    (pass (number_at 1 59 bytes == 6) _ _ _ (eq-eqb _ _ a.1.1.1.1.1.1.0) refl)))) in
    let pad = need_of (length packet.bytes) - (82 + length packet.bytes) in
    let after : drop (82 + length packet.bytes) bytes ≡ bytes_of (padding_rows (length packet.bytes)) ++ rest =
    sym (drop-drop (length packet.bytes) 82 bytes) ∙ ap (drop (length packet.bytes)) n.left
    ∙ drop_at packet.bytes _ (length packet.bytes) refl in
    let zeros_are = zeros_passed at (82 + length packet.bytes) pad bytes
    (read_bytes (82 + length packet.bytes) (padding_rows (length packet.bytes)) bytes rest
    (zeros_fit (82 + length packet.bytes) pad) after) in
    record {
      packet_is = rw (h.1.0, h.1.1.0, h.1.1.1.1.0, h.1.1.1.1.1.1.1.1.0, protocol, a.1.1.1.1.1.0, addr, kept, tag) refl;
      need_is = need;
      tests = front_tests last at bytes long may
          ∙ rw (header, zeros_passed at 40 8 bytes n.nothing, address, zeros_passed at 66 16 bytes n.gap, snap, zeros_are) refl;
    }
