use Rattle.std.proofs.Common.{◌∙◌, refl, sym, arith}
use Rattle.slot_layout.proofs.SlotReads.{has_slot_text}
use Rattle.slot_layout.proofs.SlotPasses.{begins_passing, refused, refused_lawful}
use Rattle.slot_layout.proofs.slot_reads.read_slot.Goals as goal

pub returns-in_err-check_fields-clause-only : goal.returns-in_err-check_fields-clause-only
returns-in_err-check_fields-clause-only c status packet begins =
    absurd (refused c.args.shape.now c.args.bytes.now _ c.in_err-check_fields.ensures.fault status packet begins)

pub returns-in_err-check_fields-clause-lawful : goal.returns-in_err-check_fields-clause-lawful
returns-in_err-check_fields-clause-lawful c status lawful =
    absurd (refused_lawful c.args.shape.now c.args.bytes.now _ c.in_err-check_fields.ensures.fault status lawful)

pub returns-clause-found : goal.returns-clause-found
returns-clause-found c =
    rw c.packet_at.ensures (has_slot_text c.args.shape.now c.args.bytes.now (λ i. omega (arith, c.type_inv.bytes i))
    (omega (arith, c.in_ok-check_fields.ensures.snap)) c.requires (sym c.in_ok-check_fields.ensures.fault))

pub returns-clause-only : goal.returns-clause-only
returns-clause-only c status packet begins =
    (refl, c.packet_at.ensures ∙ (begins_passing c.args.shape.now status packet c.args.bytes.now begins).packet_is)
