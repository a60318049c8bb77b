use Rattle.std.proofs.Common.{List, ℕ, subst, sym}
use Rattle.slot_layout.specs.SlotTexts.{SlotBeginsLawfully}
use Rattle.slot_layout.proofs.layouts.SlotLayout.push_packets.Goals as goal

pub packet_of-packet-requires : goal.packet_of-packet-requires
packet_of-packet-requires c =
    let shape = c.args.self.now.shape in
    let t = c.requires.ready in
    (shape, t.1, subst (λ (bytes : List ℕ). SlotBeginsLawfully shape t.1 bytes) (sym c.bytes.ensures.value) t.2)
