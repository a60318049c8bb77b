-- What the fields of a slot's text hold.
use Rattle.std.proofs.Common.{◌≡◌, ℕ, ◌+◌, ◌^◌, ◌<◌, true, List, ◌++◌, length, drop, refl, ◌∙◌, inl, inr, arith, append_assoc}
use Rattle.std.specs.Prelude.{◌==◌, IfSome, IsTrue, Option, None, Some}
use Rattle.std.proofs.lemmas.Bool.{eqb-true, or_cases}
use Rattle.std.proofs.lemmas.List.{length-append}
use Rattle.frame_view.specs.Vlan.{is_tpid}
use Rattle.frame_view.specs.declared.frames.Packet.{Packet}
use Rattle.frame_view.specs.declared.frames.Tag.{Tag}
use Rattle.tp_layout.specs.Packets.{IsLawfulPacket, address_rows, tci_of, tpid_of, tpid_may}
use Rattle.tp_layout.specs.Rows.{bytes_of, number_at, zeros}
use Rattle.tp_layout.specs.declared.requests.RingRequest.{RingRequest}
use Rattle.tp_layout.proofs.Bytes.{are_bytes}
use Rattle.tp_layout.proofs.Puts.{length-address, length-bytes_of}
use Rattle.tp_layout.proofs.Tables.{AllFit, AllRead, behind, read_bytes, zeros_fit}
use Rattle.slot_layout.specs.SlotFaults.{is_slot_status}
use Rattle.slot_layout.specs.SlotTexts.{IsLawfulSlot, slot_header_rows, slot_status_may, slot_tag_at, slot_text}

-- ---- sizes

pub length-slot_text : (status : ℕ) (packet : Packet) → length (slot_text status packet) ≡ 66 + length packet.bytes
unfolding slot_text
length-slot_text status packet =
    let header = bytes_of (slot_header_rows status packet) in
    let padding = bytes_of (zeros 28 4) in
    let address = bytes_of (address_rows packet) in
    let gap = bytes_of (zeros 50 16) in
    omega (
      arith,
      length-append header (padding ++ (address ++ (gap ++ packet.bytes))),
      length-append padding (address ++ (gap ++ packet.bytes)),
      length-append address (gap ++ packet.bytes),
      length-append gap packet.bytes,
      length-bytes_of (slot_header_rows status packet),
      length-bytes_of (zeros 28 4),
      length-address packet,
      length-bytes_of (zeros 50 16),
    )

-- ---- statuses and tags

-- a fact holds of each allowed status if it holds of every one in turn
pub by_status : (P : ℕ → Type 0) (tag : Option Tag) (status : ℕ) → slot_status_may tag status ≡ true
    → P 1 → P 5 → P 81 → P 85 → P status
by_status P None status may one five tagged both =
    elim (or_cases (status == 1) (status == 5) may) [
      | inl e ↦ rw (eqb-true status 1 e) one
      | inr e ↦ rw (eqb-true status 5 e) five
    ]
by_status P (Some tag) status may one five tagged both =
    elim (or_cases (status == 81) (status == 85) may) [
      | inl e ↦ rw (eqb-true status 81 e) tagged
      | inr e ↦ rw (eqb-true status 85 e) both
    ]

pub filled_status : (tag : Option Tag) (status : ℕ) → slot_status_may tag status ≡ true → is_slot_status status ≡ true
filled_status tag status may = by_status (λ (n : ℕ). is_slot_status n ≡ true) tag status may refl refl refl refl

small_status : (tag : Option Tag) (status : ℕ) → slot_status_may tag status ≡ true → status < 256 ^ 4
small_status tag status may =
    by_status (λ (n : ℕ). n < 256 ^ 4) tag status may (omega arith) (omega arith) (omega arith) (omega arith)

small_tci : (tag : Option Tag) → IfSome tag (λ tag. tag.tci < 2 ^ 16) → tci_of tag < 256 ^ 2
small_tci None h = omega arith
small_tci (Some tag) h = omega (arith, h)

small_tpid : (tag : Option Tag) → IfSome tag (λ tag. IsTrue (is_tpid tag.tpid)) → tpid_of tag < 256 ^ 2
small_tpid None h = omega arith
small_tpid (Some tag) h =
    elim (or_cases (tag.tpid == 0x8100) (tag.tpid == 0x88a8) h) [
      | inl customer ↦ let e = eqb-true tag.tpid 0x8100 customer in omega (arith, e)
      | inr service ↦ let e = eqb-true tag.tpid 0x88a8 service in omega (arith, e)
    ]

pub may_tpid : (tag : Option Tag) → IfSome tag (λ tag. IsTrue (is_tpid tag.tpid)) → tpid_may tag ≡ true
may_tpid None h = refl
may_tpid (Some tag) h = h

-- the tag comes back from the fields
pub tag_back : (tag : Option Tag) (status : ℕ) (bytes : List ℕ) → slot_status_may tag status ≡ true
    → number_at 4 0 bytes ≡ status → number_at 2 24 bytes ≡ tci_of tag → number_at 2 26 bytes ≡ tpid_of tag
    → slot_tag_at bytes ≡ tag
tag_back None status bytes may is tci tpid =
    elim (or_cases (status == 1) (status == 5) may) [
      | inl e ↦ rw (is, eqb-true status 1 e) refl
      | inr e ↦ rw (is, eqb-true status 5 e) refl
    ]
tag_back (Some tag) status bytes may is tci tpid =
    elim (or_cases (status == 81) (status == 85) may) [
      | inl e ↦ rw (is, eqb-true status 81 e, tci, tpid) refl
      | inr e ↦ rw (is, eqb-true status 85 e, tci, tpid) refl
    ]

-- ---- the tables

header_fit : (shape : RingRequest) (status : ℕ) (packet : Packet) → IsLawfulSlot shape status packet
    → AllFit (slot_header_rows status packet)
header_fit shape status packet lawful =
    let sound = lawful.sound in
    let typed = sound.typed in
    let captured = sound.captured in
    let wire = typed.wire in
    let nsec = sound.nsec in (
      small_status packet.tag status lawful.filled,
      (
        wire,
        (
          omega arith,
          (
            omega arith,
            (
              omega arith,
              (typed.sec, (omega arith, (small_tci packet.tag typed.tci, (small_tpid packet.tag sound.tag, tt)))),
            ),
          ),
        ),
      ),
    )

address_fit : (packet : Packet) → IsLawfulPacket packet → AllFit (address_rows packet)
address_fit packet lawful =
    let small = are_bytes packet.addr lawful.typed.addr in
    let protocol = lawful.typed.protocol in
    let kind = lawful.pkttype in (
      omega arith,
      (
        omega arith,
        (
          omega arith,
          (
            omega arith,
            (
              omega arith,
              (
                omega arith,
                (
                  omega arith,
                  (small 0, (small 1, (small 2, (small 3, (small 4, (small 5, tt)))))),
                ),
              ),
            ),
          ),
        ),
      ),
    )

-- the numbers of a slot's text
pub record Numbers (status : ℕ) (packet : Packet) (bytes rest : List ℕ) : Type 0 where
  pub header : AllRead 0 (slot_header_rows status packet) bytes
  pub padding : AllRead 28 (zeros 28 4) bytes
  pub address : AllRead 32 (address_rows packet) bytes
  pub gap : AllRead 50 (zeros 50 16) bytes
  pub left : drop 66 bytes ≡ packet.bytes ++ rest

pub numbers : (shape : RingRequest) (status : ℕ) (packet : Packet) (bytes rest : List ℕ) → IsLawfulSlot shape status packet
    → bytes ≡ slot_text status packet ++ rest → Numbers status packet bytes rest
unfolding slot_text
numbers shape status packet bytes rest lawful e =
    let header = slot_header_rows status packet in
    let address = address_rows packet in
    let after = packet.bytes ++ rest in
    let whole : bytes ≡ bytes_of header ++ (bytes_of (zeros 28 4) ++ (bytes_of address ++ (bytes_of (zeros 50 16) ++ after))) =
    e ∙ simp append_assoc refl in
    let b : drop 28 bytes ≡ bytes_of (zeros 28 4) ++ (bytes_of address ++ (bytes_of (zeros 50 16) ++ after)) =
    behind 0 header bytes _ whole in
    let c : drop 32 bytes ≡ bytes_of address ++ (bytes_of (zeros 50 16) ++ after) = behind 28 (zeros 28 4) bytes _ b in
    let d : drop 50 bytes ≡ bytes_of (zeros 50 16) ++ after = behind 32 address bytes _ c in
    record {
      header = read_bytes 0 header bytes _ (header_fit shape status packet lawful) whole;
      padding = read_bytes 28 (zeros 28 4) bytes _ (zeros_fit 28 4) b;
      address = read_bytes 32 address bytes _ (address_fit packet lawful.sound) c;
      gap = read_bytes 50 (zeros 50 16) bytes _ (zeros_fit 50 16) d;
      left = behind 50 (zeros 50 16) bytes _ d;
    }
