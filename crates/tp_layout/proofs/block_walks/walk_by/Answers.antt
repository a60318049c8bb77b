use Rattle.std.proofs.Common.{sym, arith, refl}
use Rattle.tp_layout.specs.Faults.{packets_of}
use Rattle.tp_layout.proofs.Walks.{area_small}
use Rattle.tp_layout.proofs.block_walks.walk_by.Goals as goal

pub check_packets-requires : goal.check_packets-requires
check_packets-requires c =
    let area = c.in_ok-check_descriptor.ensures.area in
    let small = area_small c.args.shape.now c.args.bytes.now c.first-first.ensures.sound c.requires.size area.0 area.1 in
    record { small = rw (c.first-first.ensures.value, c.area_of-area.ensures) small }

pub of-requires : goal.of-requires
of-requires c =
    let area = c.in_ok-check_descriptor.ensures.area in
    let small = area_small c.args.shape.now c.args.bytes.now c.first-first.ensures.sound c.requires.size area.0 area.1 in
    (c.first-first.result, sym c.in_ok-last.ensures.fault, rw c.area_of-area.ensures (omega (arith, small)))

pub returns-clause-packets : goal.returns-clause-packets
unfolding packets_of
returns-clause-packets c = rw (c.of.ensures, c.u32_at-count.ensures, c.area_of-area.ensures) refl
