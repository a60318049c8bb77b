use Rattle.std.proofs.Common.{arith}
use Rattle.std.proofs.Math.Bridge.{le_prop}
use Rattle.std.proofs.Math.Logic.{∥∥₁_elim}
use Rattle.tp_layout.proofs.Opens.{within}
use Rattle.slot_layout.specs.SlotTexts.{slot_text}
use Rattle.slot_layout.proofs.SlotNumbers.{length-slot_text}
use Rattle.slot_layout.proofs.SlotPasses.{begins_passing}
use Rattle.slot_layout.proofs.slot_reads.packet_of.Goals as goal

pub packet_at-requires : goal.packet_at-requires
packet_at-requires c =
    let shape = c.requires.0 in
    let status = c.requires.1 in
    let bytes = c.args.bytes.now in
    ∥∥₁_elim c.requires.2 le_prop (λ x.
    omega (
      arith,
      (begins_passing shape status x.0 bytes x.1).snap_is,
      length-slot_text status x.0,
      within (slot_text status x.0) bytes x.1.begins,
    ))
