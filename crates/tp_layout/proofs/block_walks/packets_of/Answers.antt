use Rattle.std.proofs.Common.{arith, refl, ◌∙◌}
use Rattle.tp_layout.specs.Faults.{packets_of}
use Rattle.tp_layout.specs.Requests.{first_of}
use Rattle.tp_layout.proofs.ReaderAnswers.{begins_has, begins_read, begins_well}
use Rattle.tp_layout.proofs.block_walks.packets_of.Goals as goal

pub u32_at-requires : goal.u32_at-requires
u32_at-requires c =
    let well = begins_well c.args.shape.now c.requires.lawful.0 c.requires.lawful.1 c.args.bytes.now
    c.a_shape_is_sound.ensures.sound.small c.requires.lawful.2 in
    omega (arith, well.header)

pub area_of-requires : goal.area_of-requires
area_of-requires c =
    let well = begins_well c.args.shape.now c.requires.lawful.0 c.requires.lawful.1 c.args.bytes.now
    c.a_shape_is_sound.ensures.sound.small c.requires.lawful.2 in
    record { header = well.header; order = well.order; within = well.within }

pub of-requires : goal.of-requires
of-requires c =
    let well = begins_well c.args.shape.now c.requires.lawful.0 c.requires.lawful.1 c.args.bytes.now
    c.a_shape_is_sound.ensures.sound.small c.requires.lawful.2 in
    (first_of c.args.shape.now, rw (c.u32_at.ensures, c.area_of.ensures) well.tests, rw c.area_of.ensures well.small)

pub returns-clause-packets : goal.returns-clause-packets
unfolding packets_of
returns-clause-packets c = rw (c.of.ensures, c.u32_at.ensures, c.area_of.ensures) refl

pub returns-clause-found : goal.returns-clause-found
returns-clause-found c =
    rw (returns-clause-packets c)
    (begins_has c.args.shape.now c.requires.lawful.0 c.requires.lawful.1 c.args.bytes.now
    (λ i. omega (arith, c.type_inv.bytes i))
    c.a_shape_is_sound.ensures.sound.small c.requires.size c.requires.lawful.2)

pub returns-clause-only : goal.returns-clause-only
returns-clause-only c number status packets is =
    returns-clause-packets c ∙ begins_read c.args.shape.now number status packets c.args.bytes.now
    c.a_shape_is_sound.ensures.sound.small is
