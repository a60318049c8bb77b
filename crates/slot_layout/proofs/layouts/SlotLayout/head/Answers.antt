use Rattle.std.proofs.Common.{arith, ap, length}
use Rattle.slot_layout.proofs.SlotTold.{text_within}
use Rattle.slot_layout.proofs.layouts.SlotLayout.head.Goals as goal

pub u32_at-requires : goal.u32_at-requires
u32_at-requires c =
    let t = c.requires.ready in
    let within = text_within c.args.self.now.shape t.1 c.args.self.now.bytes t.2 in
    let same = ap length c.bytes.ensures.value in
    omega (arith, within, same)
