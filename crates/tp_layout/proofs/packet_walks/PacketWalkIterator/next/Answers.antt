use Rattle.std.proofs.Common.{◌∙◌, sym, rules, arith}
use Rattle.tp_layout.proofs.Walks.{positive, first_passes, none_in, packets_in_step}
use Rattle.tp_layout.proofs.packet_walks.PacketWalkIterator.next.Goals as goal

pub returns-then-self-eq0-clause-steps : goal.returns-then-self-eq0-clause-steps
returns-then-self-eq0-clause-steps c =
    let none = sym c.self.view_is ∙ none_in c.self.inside.left c.self.inside.rest.now c.if-self-eq0.true in
    (none, none)

pub packet_at-packet-requires : goal.packet_at-packet-requires
packet_at-packet-requires c =
    (first_passes c.self.inside.left c.self.inside.rest.now (positive _ c.if-self-eq0.false) c.self.invariant).snap

pub u32_at-requires : goal.u32_at-requires
u32_at-requires c =
    let first = first_passes c.self.inside.left c.self.inside.rest.now (positive _ c.if-self-eq0.false) c.self.invariant in
    omega (arith, first.header)

pub need-requires : goal.need-requires
need-requires c =
    let first = first_passes c.self.inside.left c.self.inside.rest.now (positive _ c.if-self-eq0.false) c.self.invariant in
    rw c.u32_at.ensures first.small

pub split_at-requires : goal.split_at-requires
split_at-requires c =
    let first = first_passes c.self.inside.left c.self.inside.rest.now (positive _ c.if-self-eq0.false) c.self.invariant in
    rw (c.need.ensures, c.u32_at.ensures) first.within

pub invariant_of-self : goal.invariant_of-self
invariant_of-self c =
    let first = first_passes c.self.inside.left c.self.inside.rest.now (positive _ c.if-self-eq0.false) c.self.invariant in
    rw (c.split_at.ensures.back, c.need.ensures, c.u32_at.ensures) first.rest

pub returns-clause-steps : goal.returns-clause-steps
returns-clause-steps c =
    let step = packets_in_step c.self.inside.left c.self.inside.rest.now (positive _ c.if-self-eq0.false) in
    rw (c.packet_at-packet.ensures, c.split_at.ensures.back, c.need.ensures, c.u32_at.ensures) (sym c.self.view_is ∙ step)

pub returns-clause-goes : goal.returns-clause-goes
returns-clause-goes c = rw (returns-clause-steps c) (search rules)
