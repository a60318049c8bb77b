use Rattle.std.proofs.Common.{length, ap, ◌∙◌, arith}
use Rattle.tx_ring.specs.Slots.{SlotState}
use Rattle.tx_ring.proofs.Texts.{data_of, length-slot_text}
use Rattle.tx_ring.proofs.slots.Slots.frame.Goals as goal

pub piece_of-requires : goal.piece_of-requires
piece_of-requires c =
    let size = ap length c.in-Some.ensures.value ∙ length-slot_text _ c.in-Some.ensures.sound.fits in
    omega (arith, size, c.requires.fits, c.asked-count.ensures)

pub returns-in-Some-clause-value : goal.returns-in-Some-clause-value
returns-in-Some-clause-value c =
    c.piece_of.ensures
    ∙ rw (c.in-Some.ensures.value, c.asked-count.ensures) (data_of _ _ c.in-Some.ensures.sound c.requires.fits)

pub returns-in-None : goal.returns-in-None
returns-in-None c =
    let none = ap (λ (slot : SlotState). slot.request.length) c.in-None.ensures.value in
    absurd (omega (arith, none, c.requires.some))
