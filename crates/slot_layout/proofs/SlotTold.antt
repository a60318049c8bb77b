-- A slot that begins with a lawful text is read as what the text says.
use Rattle.std.proofs.Common.{◌≡◌, ℕ, ◌+◌, ◌≤◌, List, length, take, refl, ap, sym, ◌∙◌, arith}
use Rattle.std.proofs.Math.Bridge.{le_prop}
use Rattle.std.proofs.Math.Logic.{∥∥₁_elim}
use Rattle.std.proofs.Props.{props}
use Rattle.frame_view.specs.declared.frames.Packet.{Packet}
use Rattle.slot_layout.specs.SlotLayouts.{slot_taken, slot_taken_in, text_of_slot}
use Rattle.slot_layout.specs.SlotTexts.{SlotBegins, SlotBeginsLawfully, slot_packet_at, slot_text}
use Rattle.slot_layout.proofs.SlotNumbers.{length-slot_text}
use Rattle.slot_layout.proofs.SlotPasses.{begins_passing}
use Rattle.tp_layout.proofs.Opens.{within}
use Rattle.tp_layout.specs.declared.requests.RingRequest.{RingRequest}

pub slot_told : (shape : RingRequest) (status : ℕ) (packet : Packet) (bytes : List ℕ) → SlotBegins shape status packet bytes
    → slot_taken_in shape bytes ≡ slot_taken status packet
slot_told shape status packet bytes begins =
    let passing = begins_passing shape status packet bytes begins in
    rw (passing.status_is, passing.packet_is) refl

-- where the text ends
pub text_size : (shape : RingRequest) (status : ℕ) (packet : Packet) (bytes : List ℕ) → SlotBegins shape status packet bytes
    → 66 + length (slot_packet_at bytes).bytes ≡ length (slot_text status packet)
text_size shape status packet bytes begins =
    ap (λ (p : Packet). 66 + length p.bytes) (begins_passing shape status packet bytes begins).packet_is
    ∙ sym (length-slot_text status packet)

pub text_within : (shape : RingRequest) (status : ℕ) (bytes : List ℕ) → SlotBeginsLawfully shape status bytes
    → 66 + length (slot_packet_at bytes).bytes ≤ length bytes
text_within shape status bytes lawful =
    ∥∥₁_elim lawful le_prop (λ x.
    omega (arith, text_size shape status x.0 bytes x.1, within (slot_text status x.0) bytes x.1.begins))

pub text_lent : (shape : RingRequest) (status : ℕ) (bytes : List ℕ) → SlotBeginsLawfully shape status bytes
    → take (66 + length (slot_packet_at bytes).bytes) bytes ≡ text_of_slot shape (slot_taken_in shape bytes)
text_lent shape status bytes lawful =
    ∥∥₁_elim lawful (search props) (λ x.
    let passing = begins_passing shape status x.0 bytes x.1 in
    ap (λ (n : ℕ). take n bytes) (text_size shape status x.0 bytes x.1) ∙ x.1.begins
    ∙ sym (ap (λ (s : ℕ). slot_text s (slot_packet_at bytes)) passing.status_is
    ∙ ap (λ (p : Packet). slot_text status p) passing.packet_is))
