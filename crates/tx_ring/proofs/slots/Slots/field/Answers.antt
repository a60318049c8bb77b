use Rattle.std.proofs.Common.{length, ap, ◌∙◌, sym, arith}
use Rattle.tp_layout.specs.Rows.{number_at}
use Rattle.tx_ring.specs.Slots.{SlotState, slot_at, slot_text}
use Rattle.tx_ring.proofs.Pieces.{empty_number}
use Rattle.tx_ring.proofs.Texts.{length-slot_text, told}
use Rattle.tx_ring.proofs.slots.Slots.field.Goals as goal

pub u32_at-requires : goal.u32_at-requires
u32_at-requires c =
    let sound = c.in-Some.ensures.sound in
    let fits = sound.fits in
    let size = ap length c.in-Some.ensures.value ∙ length-slot_text _ fits in
    omega (arith, size, fits, c.requires.header)

pub returns-in-Some-clause-value : goal.returns-in-Some-clause-value
returns-in-Some-clause-value c = c.u32_at.ensures ∙ ap (number_at 4 c.args.place) c.in-Some.ensures.value

pub returns-in-Some-clause-told : goal.returns-in-Some-clause-told
returns-in-Some-clause-told c = told _ c.in-Some.ensures.sound

pub returns-in-None-clause-value : goal.returns-in-None-clause-value
returns-in-None-clause-value c =
    empty_number c.args.place (slot_at c.args.self.now c.args.at).size (omega (arith, c.in-None.ensures.sound.fits))
    c.requires.header
    ∙ ap (λ (slot : SlotState). number_at 4 c.args.place (slot_text slot)) (sym c.in-None.ensures.value)

pub returns-in-None-clause-told : goal.returns-in-None-clause-told
returns-in-None-clause-told c = told _ c.in-None.ensures.sound
