use Rattle.std.proofs.Common.{◌++◌, List, ◌∙◌, ap, sym, append-nil, arith}
use Rattle.frame_view.specs.declared.frames.Packet.{Packet}
use Rattle.tp_layout.specs.Packets.{packet_at}
use Rattle.tp_layout.proofs.Copies.{first_part, front_kept, one_more}
use Rattle.tp_layout.proofs.Walks.{first_passes, none_in, packets_in_step}
use Rattle.tp_layout.proofs.packet_walks.PacketWalk.push_parts.Goals as goal

pub u32_at-snap-requires : goal.u32_at-snap-requires
u32_at-snap-requires c =
    let first = first_passes c.loop-left.left c.loop-left.rest.now c.loop-left-test.true c.loop-left.invariant.passes in
    omega (arith, first.header)

pub part-requires : goal.part-requires
part-requires c =
    let l = c.loop-left in
    let part = first_part l.left l.from l.rest.now c.args.piece.now c.loop-left-test.true l.invariant.passes l.invariant.within
    l.invariant.joined in
    rw c.u32_at-snap.ensures part.within

pub packet_with-requires-clause-header : goal.packet_with-requires-clause-header
packet_with-requires-clause-header c =
    let first = first_passes c.loop-left.left c.loop-left.rest.now c.loop-left-test.true c.loop-left.invariant.passes in
    omega (arith, first.header)

pub packet_with-requires-clause-captured : goal.packet_with-requires-clause-captured
packet_with-requires-clause-captured c =
    let l = c.loop-left in
    let part = first_part l.left l.from l.rest.now c.args.piece.now c.loop-left-test.true l.invariant.passes l.invariant.within
    l.invariant.joined in
    rw (c.in_ok-bytes.ensures, c.u32_at-snap.ensures) part.is

pub need-requires : goal.need-requires
need-requires c =
    let first = first_passes c.loop-left.left c.loop-left.rest.now c.loop-left-test.true c.loop-left.invariant.passes in
    rw c.u32_at-snap.ensures first.small

pub split_at-requires : goal.split_at-requires
split_at-requires c =
    let first = first_passes c.loop-left.left c.loop-left.rest.now c.loop-left-test.true c.loop-left.invariant.passes in
    rw (c.need.ensures, c.u32_at-snap.ensures) first.within

pub loop-left-preserved : goal.loop-left-preserved
loop-left-preserved c =
    let l = c.loop-left in
    let some = c.loop-left-test.true in
    let first = first_passes l.left l.rest.now some l.invariant.passes in
    let part = first_part l.left l.from l.rest.now c.args.piece.now some l.invariant.passes l.invariant.within
    l.invariant.joined in
    record {
      passes = rw (c.split_at.ensures.back, c.need.ensures, c.u32_at-snap.ensures) first.rest;
      copies = rw (
        c.push_reserved.ensures.items,
        c.packet_with.ensures,
        c.split_at.ensures.back,
        c.need.ensures,
        c.u32_at-snap.ensures,
      )
          (one_more l.into.items _ _ _ (packet_at l.rest.now) l.invariant.copies (packets_in_step l.left l.rest.now some));
      front = rw c.push_reserved.ensures.items
          (front_kept c.reserve.new.self.items l.into.items c.packet_with.result l.invariant.front);
      room = omega (arith, some, l.invariant.room, c.push_reserved.ensures.len, c.push_reserved.ensures.capacity);
      within = rw c.u32_at-snap.ensures part.within;
      joined = rw (c.split_at.ensures.back, c.need.ensures, c.u32_at-snap.ensures) part.others;
    }

pub returns-clause-copies : goal.returns-clause-copies
returns-clause-copies c =
    let l = c.loop-left in
    let none = none_in l.left l.rest.now (omega (arith, c.loop-left-test.false)) in
    sym (append-nil l.into.items)
    ∙ ap (λ (packets : List Packet). l.into.items ++ packets) (sym none)
    ∙ l.invariant.copies
    ∙ ap (λ (packets : List Packet). packets ++ c.args.self) c.reserve.ensures.items
