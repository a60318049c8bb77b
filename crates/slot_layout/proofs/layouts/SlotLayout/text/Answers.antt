use Rattle.std.proofs.Common.{◌+◌, List, ℕ, length, take, ap, subst, sym, ◌∙◌, arith}
use Rattle.frame_view.specs.declared.frames.Packet.{Packet}
use Rattle.slot_layout.specs.SlotTexts.{SlotBeginsLawfully, slot_packet_at}
use Rattle.slot_layout.proofs.SlotTold.{text_lent, text_within}
use Rattle.slot_layout.proofs.layouts.SlotLayout.text.Goals as goal

pub packet_of-packet-requires : goal.packet_of-packet-requires
packet_of-packet-requires c =
    let shape = c.args.self.now.shape in
    let t = c.requires.ready in
    (shape, t.1, subst (λ (bytes : List ℕ). SlotBeginsLawfully shape t.1 bytes) (sym c.bytes-bytes.ensures.value) t.2)

pub split_at-requires : goal.split_at-requires
split_at-requires c =
    let t = c.requires.ready in
    let packet = c.packet_of-packet.ensures ∙ ap (λ (bytes : List ℕ). slot_packet_at bytes) c.bytes-bytes.ensures.value in
    omega (
      arith,
      text_within c.args.self.now.shape t.1 c.args.self.now.bytes t.2,
      ap (λ (p : Packet). length p.bytes) packet,
      ap length c.bytes-bytes.ensures.value,
    )

pub returns : goal.returns
returns c =
    let t = c.requires.ready in
    let bytes = c.args.self.now.bytes in
    let packet = c.packet_of-packet.ensures ∙ ap (λ (all : List ℕ). slot_packet_at all) c.bytes-bytes.ensures.value in
    record {
      text = c.split_at.ensures.front
          ∙ ap (λ (all : List ℕ). take (66 + length c.packet_of-packet.result.bytes.now) all) c.bytes-bytes.ensures.value
          ∙ ap (λ (p : Packet). take (66 + length p.bytes) bytes) packet
          ∙ text_lent c.args.self.now.shape t.1 bytes t.2;
    }
