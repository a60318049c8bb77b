-- A slot that passed the tests begins with the text of its packet.
use Rattle.std.proofs.Common.{◌≡◌, ℕ, zero, suc, ◌+◌, ◌-◌, ◌/◌, ◌%◌, ◌^◌, ◌≤◌, ◌<◌, true, List, ◌++◌, length, take, drop, refl}
use Rattle.std.proofs.Common.{sym, ap, ◌∙◌, inl, inr, arith}
use Rattle.std.specs.Prelude.{◌==◌, ◌&&◌, ◌||◌, nat_le, IfSome, IsTrue, Option, None, Some}
use Rattle.std.proofs.Math.Seq.{take-add}
use Rattle.std.proofs.lemmas.Bool.{and_parts, cases_Bool, eqb-true, leb-true, or_cases}
use Rattle.std.proofs.lemmas.List.{drop-drop, length-drop, length-take-le}
use Rattle.frame_view.specs.Headers.{address_of}
use Rattle.frame_view.specs.Vlan.{is_tpid}
use Rattle.frame_view.specs.declared.frames.Tag.{Tag}
use Rattle.tp_layout.specs.Checks.{address_tests}
use Rattle.tp_layout.specs.Packets.{address_rows, tci_of, tpid_may, tpid_of}
use Rattle.tp_layout.specs.Rows.{bytes_of, network_at, number_at, zeros}
use Rattle.tp_layout.specs.declared.requests.RingRequest.{RingRequest}
use Rattle.tp_layout.proofs.Bytes.{IsBytes, all_bytes, network_two, number_fits, number_one}
use Rattle.tp_layout.proofs.Tables.{AllRead, bytes_read, zeros_read}
use Rattle.tp_layout.proofs.Walks.{or_none, unless_none}
use Rattle.slot_layout.specs.SlotFaults.{is_slot_status, slot_head_fault, slot_snap_may, slot_text_fault, slot_vlan_fault}
use Rattle.slot_layout.specs.SlotTexts.{HasSlotText, IsLawfulSlot, slot_header_rows, slot_packet_at, slot_status_may}
use Rattle.slot_layout.specs.SlotTexts.{slot_tag_at, slot_text}
use Rattle.slot_layout.proofs.SlotNumbers.{length-slot_text}

-- ---- what the tests say

record Head (shape : RingRequest) (bytes : List ℕ) : Type 0 where
  status : is_slot_status (number_at 4 0 bytes) ≡ true
  some : 1 ≤ number_at 4 8 bytes
  wire : number_at 4 8 bytes ≤ number_at 4 4 bytes
  within : number_at 4 8 bytes ≤ shape.frame_size - 66
  mac : number_at 2 12 bytes ≡ 66
  net : number_at 2 14 bytes ≡ 80
  nsec : number_at 4 20 bytes ≤ 999999999

head : (shape : RingRequest) (bytes : List ℕ) → slot_head_fault shape bytes ≡ None → Head shape bytes
unfolding slot_head_fault
head shape bytes e =
    let a = unless_none (is_slot_status (number_at 4 0 bytes)) _ _ _ e in
    let b = unless_none (slot_snap_may shape bytes) _ _ _ a.1 in
    let c = unless_none (number_at 2 12 bytes == 66) _ _ _ b.1 in
    let d = unless_none (number_at 2 14 bytes == 80) _ _ _ c.1 in
    let f = unless_none (nat_le (number_at 4 20 bytes) 999999999) _ _ _ d.1 in
    let outer = and_parts (nat_le 1 (number_at 4 8 bytes) && nat_le (number_at 4 8 bytes) (number_at 4 4 bytes))
    (nat_le (number_at 4 8 bytes) (shape.frame_size - 66)) b.0 in
    let inner = and_parts (nat_le 1 (number_at 4 8 bytes)) (nat_le (number_at 4 8 bytes) (number_at 4 4 bytes)) outer.0 in
    record {
      status = a.0;
      some = leb-true _ _ inner.0;
      wire = leb-true _ _ inner.1;
      within = leb-true _ _ outer.1;
      mac = eqb-true _ _ c.0;
      net = eqb-true _ _ d.0;
      nsec = leb-true _ _ f.0;
    }

record Vlan (bytes : List ℕ) : Type 0 where
  tci : number_at 2 24 bytes ≡ tci_of (slot_tag_at bytes)
  tpid : number_at 2 26 bytes ≡ tpid_of (slot_tag_at bytes)
  may : tpid_may (slot_tag_at bytes) ≡ true

vlan : (bytes : List ℕ) → slot_vlan_fault bytes ≡ None → Vlan bytes
unfolding slot_vlan_fault
vlan bytes e =
    let a = unless_none (number_at 2 24 bytes == tci_of (slot_tag_at bytes)) _ _ _ e in
    let b = unless_none ((number_at 2 26 bytes == tpid_of (slot_tag_at bytes)) && tpid_may (slot_tag_at bytes)) _ _ _ a.1 in
    let both = and_parts (number_at 2 26 bytes == tpid_of (slot_tag_at bytes)) (tpid_may (slot_tag_at bytes)) b.0 in
    record { tci = eqb-true _ _ a.0; tpid = eqb-true _ _ both.0; may = both.1 }

record Address (bytes : List ℕ) : Type 0 where
  family : number_at 2 32 bytes ≡ 17
  ifindex : number_at 4 36 bytes ≡ 1
  hatype : number_at 2 40 bytes ≡ 1
  pkttype : number_at 1 42 bytes ≤ 3
  halen : number_at 1 43 bytes ≡ 6

address : (bytes : List ℕ) → address_tests 0 32 bytes ≡ None → Address bytes
unfolding address_tests
address bytes e =
    let a = unless_none (number_at 2 32 bytes == 17) _ _ _ e in
    let b = unless_none (number_at 4 36 bytes == 1) _ _ _ a.1 in
    let c = unless_none (number_at 2 40 bytes == 1) _ _ _ b.1 in
    let d = unless_none (nat_le (number_at 1 42 bytes) 3) _ _ _ c.1 in
    let f = unless_none (number_at 1 43 bytes == 6) _ _ _ d.1 in
    record {
      family = eqb-true _ _ a.0;
      ifindex = eqb-true _ _ b.0;
      hatype = eqb-true _ _ c.0;
      pkttype = leb-true _ _ d.0;
      halen = eqb-true _ _ f.0;
    }

-- ---- the status and the tag

tag_lawful : (tag : Option Tag) → tpid_may tag ≡ true → IfSome tag (λ tag. IsTrue (is_tpid tag.tpid))
tag_lawful None e = tt
tag_lawful (Some tag) e = e

tag_typed : (bytes : List ℕ) → IsBytes bytes → IfSome (slot_tag_at bytes) (λ tag. tag.tci < 2 ^ 16)
tag_typed bytes h =
    elim (cases_Bool ((number_at 4 0 bytes == 81) || (number_at 4 0 bytes == 85))) [
      | inl has ↦ rw has (number_fits 2 24 bytes h)
      | inr other ↦ rw other tt
    ]

-- a status with which a slot was filled says whether there is a tag
status_may : (bytes : List ℕ) → is_slot_status (number_at 4 0 bytes) ≡ true
    → slot_status_may (slot_tag_at bytes) (number_at 4 0 bytes) ≡ true
status_may bytes e =
    elim (or_cases ((number_at 4 0 bytes == 1) || (number_at 4 0 bytes == 5) || (number_at 4 0 bytes == 81))
    (number_at 4 0 bytes == 85) e) [
      | inl low ↦ elim (or_cases ((number_at 4 0 bytes == 1) || (number_at 4 0 bytes == 5)) (number_at 4 0 bytes == 81) low) [
        | inl lower ↦ elim (or_cases (number_at 4 0 bytes == 1) (number_at 4 0 bytes == 5) lower) [
          | inl one ↦ rw (eqb-true (number_at 4 0 bytes) 1 one) refl
          | inr five ↦ rw (eqb-true (number_at 4 0 bytes) 5 five) refl
        ]
        | inr tagged ↦ rw (eqb-true (number_at 4 0 bytes) 81 tagged) refl
      ]
      | inr both ↦ rw (eqb-true (number_at 4 0 bytes) 85 both) refl
    ]

address_small : (bytes : List ℕ) → IsBytes bytes → IsBytes (address_of 44 bytes)
address_small bytes h zero = h 44
address_small bytes h (suc zero) = h 45
address_small bytes h (suc (suc zero)) = h 46
address_small bytes h (suc (suc (suc zero))) = h 47
address_small bytes h (suc (suc (suc (suc zero)))) = h 48
address_small bytes h (suc (suc (suc (suc (suc zero))))) = h 49
address_small bytes h (suc (suc (suc (suc (suc (suc i)))))) = omega arith

-- ---- the text

cut : (at n m : ℕ) (bytes : List ℕ) → take (n + m) (drop at bytes) ≡ take n (drop at bytes) ++ take m (drop (at + n) bytes)
cut at n m bytes = take-add n m (drop at bytes) ∙ ap (λ (xs : List ℕ). take n (drop at bytes) ++ take m xs)
    (drop-drop n at bytes)

pieces : (snap : ℕ) (bytes : List ℕ) → take (66 + snap) bytes
    ≡ take 28 bytes
    ++ (take 4 (drop 28 bytes) ++ (take 18 (drop 32 bytes) ++ (take 16 (drop 50 bytes) ++ take snap (drop 66 bytes))))
pieces snap bytes =
    let sum : 66 + snap ≡ 28 + (4 + (18 + (16 + snap))) = omega arith in
    ap (λ (n : ℕ). take n bytes) sum
    ∙ cut 0 28 (4 + (18 + (16 + snap))) bytes
    ∙ ap (λ (xs : List ℕ). take 28 bytes ++ xs) (cut 28 4 (18 + (16 + snap)) bytes
    ∙ ap (λ (xs : List ℕ). take 4 (drop 28 bytes) ++ xs) (cut 32 18 (16 + snap) bytes
    ∙ ap (λ (xs : List ℕ). take 18 (drop 32 bytes) ++ xs) (cut 50 16 snap bytes)))

pub record SlotReads (shape : RingRequest) (bytes : List ℕ) : Type 0 where
  pub lawful : IsLawfulSlot shape (number_at 4 0 bytes) (slot_packet_at bytes)
  pub text : take (66 + number_at 4 8 bytes) bytes ≡ slot_text (number_at 4 0 bytes) (slot_packet_at bytes)
  pub snap : length (slot_packet_at bytes).bytes ≡ number_at 4 8 bytes

pub slot_reads : (shape : RingRequest) (bytes : List ℕ) → IsBytes bytes → 66 ≤ length bytes → length bytes ≡ shape.frame_size
    → slot_text_fault shape bytes ≡ None → SlotReads shape bytes
unfolding slot_text_fault slot_packet_at slot_text
slot_reads shape bytes h long size e =
    let a = or_none _ _ e in
    let b = or_none _ _ a.1 in
    let c = or_none _ _ b.1 in
    let d = or_none _ _ c.1 in
    let top = head shape bytes a.0 in
    let tags = vlan bytes b.0 in
    let link = address bytes d.0 in
    let status = number_at 4 0 bytes in
    let snap = number_at 4 8 bytes in
    let packet = slot_packet_at bytes in
    let within = top.within in
    let kept : length (take snap (drop 66 bytes)) ≡ snap =
    length-take-le snap (drop 66 bytes) (omega (arith, length-drop 66 bytes)) in
    let two = network_two 34 bytes in
    let low = h 35 in
    let high : number_at 1 34 bytes ≡ network_at 2 34 bytes / 256 = rw (number_one 34 bytes, two) (omega arith) in
    let lower : number_at 1 35 bytes ≡ network_at 2 34 bytes % 256 = rw (number_one 35 bytes, two) (omega arith) in
    let header_read : AllRead 0 (slot_header_rows status packet) bytes =
    (refl, (refl, (sym kept, (top.mac, (top.net, (refl, (refl, (tags.tci, (tags.tpid, tt))))))))) in
    let address_read : AllRead 32 (address_rows packet) bytes = (
      link.family,
      (
        high,
        (
          lower,
          (
            link.ifindex,
            (
              link.hatype,
              (
                refl,
                (
                  link.halen,
                  (
                    number_one 44 bytes,
                    (
                      number_one 45 bytes,
                      (
                        number_one 46 bytes,
                        (number_one 47 bytes, (number_one 48 bytes, (number_one 49 bytes, tt))),
                      ),
                    ),
                  ),
                ),
              ),
            ),
          ),
        ),
      ),
    ) in
    let one : take 28 bytes ≡ bytes_of (slot_header_rows status packet) =
    bytes_read 0 (slot_header_rows status packet) bytes h (omega (arith, long)) header_read in
    let padding : take 4 (drop 28 bytes) ≡ bytes_of (zeros 28 4) =
    bytes_read 28 (zeros 28 4) bytes h (omega (arith, long)) (zeros_read 0 28 4 bytes c.0) in
    let three : take 18 (drop 32 bytes) ≡ bytes_of (address_rows packet) =
    bytes_read 32 (address_rows packet) bytes h (omega (arith, long)) address_read in
    let gap : take 16 (drop 50 bytes) ≡ bytes_of (zeros 50 16) =
    bytes_read 50 (zeros 50 16) bytes h (omega (arith, long)) (zeros_read 0 50 16 bytes d.1) in
    record {
      lawful = record {
        sound = record {
          some = rw kept top.some;
          captured = rw kept top.wire;
          nsec = top.nsec;
          pkttype = link.pkttype;
          tag = tag_lawful (slot_tag_at bytes) tags.may;
          typed = record {
            sec = number_fits 4 16 bytes h;
            wire = number_fits 4 4 bytes h;
            rxhash = omega arith;
            protocol = rw (network_two 34 bytes) (omega (arith, h 34, h 35));
            six = refl;
            addr = all_bytes (address_of 44 bytes) (address_small bytes h);
            tci = tag_typed bytes h;
          };
        };
        no_hash = refl;
        filled = status_may bytes top.status;
        fits = rw kept (omega (arith, within, size, long));
      };
      text = pieces snap bytes ∙ rw (one, padding, three, gap) refl;
      snap = kept;
    }

-- a slot that passed has a text
pub has_slot_text : (shape : RingRequest) (bytes : List ℕ) → IsBytes bytes → 66 ≤ length bytes → length bytes ≡ shape.frame_size
    → slot_text_fault shape bytes ≡ None → HasSlotText shape bytes (slot_packet_at bytes)
has_slot_text shape bytes h long size e =
    let read = slot_reads shape bytes h long size e in
    let whole : length (slot_text (number_at 4 0 bytes) (slot_packet_at bytes)) ≡ 66 + number_at 4 8 bytes =
    length-slot_text (number_at 4 0 bytes) (slot_packet_at bytes) ∙ ap (λ (n : ℕ). 66 + n) read.snap in
    (number_at 4 0 bytes, record { lawful = read.lawful; begins = ap (λ (n : ℕ). take n bytes) whole ∙ read.text })
