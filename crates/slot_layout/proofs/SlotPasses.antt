-- A lawful text of a slot passes the tests, and is read as it was written.
use Rattle.std.proofs.Common.{◌≡◌, ℕ, ◌-◌, ◌/◌, ◌%◌, true, List, [], ◌++◌, length, take, drop, refl, sym, ap, subst, ◌∙◌, arith}
use Rattle.std.specs.Prelude.{◌==◌, ◌&&◌, nat_le, slice_index, None, Some}
use Rattle.std.proofs.Math.Logic.{∥∥₁_elim}
use Rattle.std.proofs.lemmas.Option.{none-some}
use Rattle.std.proofs.lemmas.Bool.{and_from, eq-eqb, le-leb}
use Rattle.std.proofs.lemmas.List.{append-nil, take_at}
use Rattle.frame_view.specs.Headers.{address_of}
use Rattle.frame_view.specs.declared.frames.Packet.{Packet}
use Rattle.tp_layout.specs.Checks.{address_tests}
use Rattle.tp_layout.specs.Packets.{tci_of, tpid_may, tpid_of}
use Rattle.tp_layout.specs.Rows.{network_at, number_at}
use Rattle.tp_layout.specs.declared.error.LayoutError.{LayoutError}
use Rattle.tp_layout.specs.declared.requests.RingRequest.{RingRequest}
use Rattle.tp_layout.proofs.Bytes.{network_two, number_one, six_bytes}
use Rattle.tp_layout.proofs.Opens.{split}
use Rattle.tp_layout.proofs.PacketTexts.{pass}
use Rattle.tp_layout.proofs.Tables.{zeros_passed}
use Rattle.slot_layout.specs.SlotFaults.{is_slot_status, slot_head_fault, slot_snap_may, slot_text_fault, slot_vlan_fault}
use Rattle.slot_layout.specs.SlotLaws.{HaveOneSlotText, SlotSaid}
use Rattle.slot_layout.specs.SlotTexts.{IsLawfulSlot, SlotBegins, SlotBeginsLawfully, slot_packet_at, slot_tag_at, slot_text}
use Rattle.slot_layout.proofs.SlotNumbers.{filled_status, may_tpid, numbers, tag_back}

pub record SlotPasses (shape : RingRequest) (status : ℕ) (packet : Packet) (bytes : List ℕ) : Type 0 where
  pub packet_is : slot_packet_at bytes ≡ packet
  pub status_is : number_at 4 0 bytes ≡ status
  pub snap_is : number_at 4 8 bytes ≡ length packet.bytes
  pub tests : slot_text_fault shape bytes ≡ None

pub slot_passes : (shape : RingRequest) (status : ℕ) (packet : Packet) (bytes rest : List ℕ) → IsLawfulSlot shape status packet
    → bytes ≡ slot_text status packet ++ rest → SlotPasses shape status packet bytes
unfolding slot_packet_at slot_text_fault slot_head_fault slot_vlan_fault address_tests
slot_passes shape status packet bytes rest lawful e =
    let n = numbers shape status packet bytes rest lawful e in
    let sound = lawful.sound in
    let h = n.header in
    let a = n.address in
    let wire = h.1.0 in
    let snap = h.1.1.0 in
    let sec = h.1.1.1.1.1.0 in
    let nsec = h.1.1.1.1.1.1.0 in
    let tci = h.1.1.1.1.1.1.1.0 in
    let tpid = h.1.1.1.1.1.1.1.1.0 in
    let tag = tag_back packet.tag status bytes lawful.filled h.0 tci tpid in
    let high : slice_index bytes 34 ≡ packet.protocol / 256 = sym (number_one 34 bytes) ∙ a.1.0 in
    let low : slice_index bytes 35 ≡ packet.protocol % 256 = sym (number_one 35 bytes) ∙ a.1.1.0 in
    let protocol : network_at 2 34 bytes ≡ packet.protocol = network_two 34 bytes ∙ rw (high, low) (omega arith) in
    let b0 : slice_index bytes 44 ≡ slice_index packet.addr 0 = sym (number_one 44 bytes) ∙ a.1.1.1.1.1.1.1.0 in
    let b1 : slice_index bytes 45 ≡ slice_index packet.addr 1 = sym (number_one 45 bytes) ∙ a.1.1.1.1.1.1.1.1.0 in
    let b2 : slice_index bytes 46 ≡ slice_index packet.addr 2 = sym (number_one 46 bytes) ∙ a.1.1.1.1.1.1.1.1.1.0 in
    let b3 : slice_index bytes 47 ≡ slice_index packet.addr 3 = sym (number_one 47 bytes) ∙ a.1.1.1.1.1.1.1.1.1.1.0 in
    let b4 : slice_index bytes 48 ≡ slice_index packet.addr 4 = sym (number_one 48 bytes) ∙ a.1.1.1.1.1.1.1.1.1.1.1.0 in
    let b5 : slice_index bytes 49 ≡ slice_index packet.addr 5 = sym (number_one 49 bytes) ∙ a.1.1.1.1.1.1.1.1.1.1.1.1.0 in
    let addr : address_of 44 bytes ≡ packet.addr = rw (b0, b1, b2, b3, b4, b5) (sym (six_bytes packet.addr sound.typed.six)) in
    let kept : take (number_at 4 8 bytes) (drop 66 bytes) ≡ packet.bytes =
    rw (snap, n.left) (take_at packet.bytes rest (length packet.bytes) refl) in
    let fits = lawful.fits in
    let may : slot_snap_may shape bytes ≡ true =
    and_from _ _ (and_from _ _ (le-leb 1 (number_at 4 8 bytes) (rw snap sound.some))
    (le-leb (number_at 4 8 bytes) (number_at 4 4 bytes) (rw (snap, wire) sound.captured)))
    (le-leb (number_at 4 8 bytes) (shape.frame_size - 66) (rw snap (omega arith))) in
    let head : slot_head_fault shape bytes ≡ None =
    pass (is_slot_status (number_at 4 0 bytes)) _ _ _ (ap is_slot_status h.0 ∙ filled_status packet.tag status lawful.filled)
    (pass (slot_snap_may shape bytes) _ _ _ may
    (pass (number_at 2 12 bytes == 66) _ _ _ (eq-eqb _ _ h.1.1.1.0)
    (pass (number_at 2 14 bytes == 80) _ _ _ (eq-eqb _ _ h.1.1.1.1.0)
    (pass (nat_le (number_at 4 20 bytes) 999999999) _ _ _
    (le-leb (number_at 4 20 bytes) 999999999 (rw nsec sound.nsec)) refl)))) in
    let vlan : slot_vlan_fault bytes ≡ None =
    pass (number_at 2 24 bytes == tci_of (slot_tag_at bytes)) _ _ _ (eq-eqb _ _ (tci ∙ ap tci_of (sym tag)))
    (pass ((number_at 2 26 bytes == tpid_of (slot_tag_at bytes)) && tpid_may (slot_tag_at bytes)) _ _ _
    (and_from _ _ (eq-eqb _ _ (tpid ∙ ap tpid_of (sym tag))) (ap tpid_may tag ∙ may_tpid packet.tag sound.tag)) refl) in
    let address : address_tests 0 32 bytes ≡ None =
    pass (number_at 2 32 bytes == 17) _ _ _ (eq-eqb _ _ a.0)
    (pass (number_at 4 36 bytes == 1) _ _ _ (eq-eqb _ _ a.1.1.1.0)
    (pass (number_at 2 40 bytes == 1) _ _ _ (eq-eqb _ _ a.1.1.1.1.0)
    (pass (nat_le (number_at 1 42 bytes) 3) _ _ _ (le-leb (number_at 1 42 bytes) 3 (rw a.1.1.1.1.1.0 sound.pkttype))
    (pass (number_at 1 43 bytes == 6) _ _ _ (eq-eqb _ _ a.1.1.1.1.1.1.0) refl)))) in
    record {
      packet_is = rw (sec, nsec, wire, protocol, a.1.1.1.1.1.0, addr, kept, tag, sym lawful.no_hash) refl;
      status_is = h.0;
      snap_is = snap;
      tests = rw (head, vlan, zeros_passed 0 28 4 bytes n.padding, address, zeros_passed 0 50 16 bytes n.gap) refl;
    }

-- a slot that begins with a lawful text
pub begins_passing : (shape : RingRequest) (status : ℕ) (packet : Packet) (bytes : List ℕ)
    → SlotBegins shape status packet bytes
    → SlotPasses shape status packet bytes
begins_passing shape status packet bytes is =
    let text = slot_text status packet in
    slot_passes shape status packet bytes (drop (length text) bytes) is.lawful (split text bytes is.begins)

-- ---- a text has one meaning

text_passes : (shape : RingRequest) (said : SlotSaid) → IsLawfulSlot shape said.status said.packet
    → SlotPasses shape said.status said.packet (slot_text said.status said.packet)
text_passes shape said lawful =
    slot_passes shape said.status said.packet (slot_text said.status said.packet) [] lawful
    (sym (append-nil (slot_text said.status said.packet)))

pub one_slot_text : (shape : RingRequest) (first second : SlotSaid) → HaveOneSlotText shape first second → first ≡ second
one_slot_text shape first second h =
    let a = text_passes shape first h.lawful in
    let b = subst (λ (text : List ℕ). SlotPasses shape second.status second.packet text) (sym h.same)
    (text_passes shape second h.other) in
    let status : first.status ≡ second.status = sym a.status_is ∙ b.status_is in
    let packet : first.packet ≡ second.packet = sym a.packet_is ∙ b.packet_is in
    λ i. record { status = status i; packet = packet i }

-- a slot that is refused begins with no lawful text
pub refused : (shape : RingRequest) (bytes : List ℕ) (fault : LayoutError) → Some fault ≡ slot_text_fault shape bytes
    → (status : ℕ) (packet : Packet) → SlotBegins shape status packet bytes → ⊥
refused shape bytes fault e status packet begins =
    none-some fault (sym (e ∙ (begins_passing shape status packet bytes begins).tests))

pub refused_lawful : (shape : RingRequest) (bytes : List ℕ) (fault : LayoutError) → Some fault ≡ slot_text_fault shape bytes
    → (status : ℕ) → SlotBeginsLawfully shape status bytes → ⊥
refused_lawful shape bytes fault e status lawful =
    ∥∥₁_elim lawful (λ x y. absurd x) (λ x. refused shape bytes fault e status x.0 x.1)
