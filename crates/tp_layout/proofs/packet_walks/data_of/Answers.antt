use Rattle.std.proofs.Common.{◌∙◌, length, ap, arith}
use Rattle.tp_layout.proofs.Copies.{copied_step, copied_end, data_small}
use Rattle.tp_layout.proofs.Walks.{first_passes}
use Rattle.tp_layout.proofs.packet_walks.data_of.Goals as goal

pub u32_at-snap-requires : goal.u32_at-snap-requires
u32_at-snap-requires c =
    let first = first_passes c.loop-left.left c.loop-left.rest.now c.loop-left-test.true c.loop-left.invariant.passes in
    omega (arith, first.header)

pub split_at-requires : goal.split_at-requires
split_at-requires c =
    let first = first_passes c.loop-left.left c.loop-left.rest.now c.loop-left-test.true c.loop-left.invariant.passes in
    omega (arith, first.header)

pub split_at-requires-in-loop-left : goal.split_at-requires-in-loop-left
split_at-requires-in-loop-left c =
    let first = first_passes c.loop-left.left c.loop-left.rest.now c.loop-left-test.true c.loop-left.invariant.passes in
    omega (arith, first.snap, c.u32_at-snap.ensures, c.split_at.ensures.back_len)

pub split_at-requires-in-loop-left-2 : goal.split_at-requires-in-loop-left-2
split_at-requires-in-loop-left-2 c =
    let first = first_passes c.loop-left.left c.loop-left.rest.now c.loop-left-test.true c.loop-left.invariant.passes in
    rw (c.need.ensures, c.u32_at-snap.ensures) first.within

pub loop-left-preserved : goal.loop-left-preserved
loop-left-preserved c =
    let l = c.loop-left in
    let first = first_passes l.left l.rest.now c.loop-left-test.true l.invariant.passes in
    record {
      passes = rw (c.split_at-in-loop-left-2.ensures.back, c.need.ensures, c.u32_at-snap.ensures) first.rest;
      joined = rw (
        c.in_ok-extend_from_slice.ensures.items,
        c.split_at-in-loop-left.ensures.front,
        c.split_at.ensures.back,
        c.split_at-in-loop-left-2.ensures.back,
        c.need.ensures,
        c.u32_at-snap.ensures,
      )
          (copied_step l.data.items l.rest.now _ l.left c.loop-left-test.true l.invariant.joined);
    }

pub returns-clause-joined : goal.returns-clause-joined
returns-clause-joined c =
    c.shrink_to_fit.ensures.items
    ∙ copied_end c.loop-left.data.items c.loop-left.rest.now _ c.loop-left.left c.loop-left-test.false
    c.loop-left.invariant.joined

pub returns-clause-small : goal.returns-clause-small
returns-clause-small c =
    let same = ap length (returns-clause-joined c) in
    omega (arith, same, data_small c.args.count c.args.bytes.now c.requires, c.requires.2)
