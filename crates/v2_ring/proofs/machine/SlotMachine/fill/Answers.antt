use Rattle.std.proofs.Common.{ℕ, ap, subst, ◌∙◌}
use Rattle.std.specs.Prelude.{nat_lt}
use Rattle.slot_layout.specs.SlotDump.{slot_packet_of}
use Rattle.slot_layout.specs.SlotTexts.{SlotBegins}
use Rattle.slot_layout.specs.SlotSteps.{status_of_slot}
use Rattle.v2_ring.proofs.FilledSlots.{filled_at}
use Rattle.tp_layout.proofs.OneShape.{one_shape}
use Rattle.v2_ring.proofs.machine.SlotMachine.fill.Goals as goal

pub returns-clause-at : goal.returns-clause-at
returns-clause-at g c =
    let at = c.requires.1.0 in
    let offer = c.args.offer.now in
    let machine = c.args.self.now in
    let written = c.write_slot-status in
    filled_at g.E.FeederEnd.feed g.state machine offer c.retire.new.self written.new.slot.bytes written.result
    written.new.room at
    (written.ensures.status ∙ ap (λ (n : ℕ). status_of_slot (nat_lt 0 n) offer.frame.tag) at.dropped_is)
    c.retire.ensures.retired
    (subst (λ s. SlotBegins s written.result (slot_packet_of offer) written.new.slot.bytes)
    (one_shape c.args.slot.shape machine.shape c.requires.1.1.1.1.0) written.ensures.text)
