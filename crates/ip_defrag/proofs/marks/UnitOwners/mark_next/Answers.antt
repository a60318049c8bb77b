-- One more fragment is marked; each has at least one byte, and all together have at most those of a
-- datagram.
use Rattle.std.proofs.Common.{◌<◌, ◌+◌, ◌/◌, ◌∙◌, ap, sym, arith, length}
use Rattle.ip_defrag.specs.Fragments.{from_of, to_of}
use Rattle.ip_defrag.specs.Marks.{marked}
use Rattle.ip_defrag.proofs.Covers.{filled-most, length-filled}
use Rattle.ip_defrag.proofs.Marked.{marked_next}
use Rattle.ip_defrag.proofs.marks.UnitOwners.mark_next.Goals as goal

pub overflow_cast-self : goal.overflow_cast-self
overflow_cast-self c =
    let few = length-filled c.args.fragments.now c.requires.held in
    let most = filled-most c.args.fragments.now c.requires.held in
    omega (arith, few, most, c.requires.some)

pub returns-clause-marked : goal.returns-clause-marked
returns-clause-marked c =
    let next = c.index-fragments-self.result in
    let some : from_of next < to_of next = omega (arith, c.from.ensures.place, c.from.ensures.some) in
    let len = ap length (sym c.deref_mut.ensures.value) ∙ c.deref_mut.ensures.len in
    let made = c.mark.ensures ∙ ap (marked (c.from.result / 8) c.units_to-last.result (c.args.self.now.count + 1))
    c.deref_mut.ensures.value in
    record {
      few = omega (arith, c.requires.some);
      are = marked_next c.args.self.now c.widen.new.marks.items c.mark.new.marks c.args.fragments.now next c.from.result
          c.to.result c.units_to-last.result c.widen.new.marks.len
          c.requires.marked c.requires.held c.requires.some c.index-fragments-self.is some c.from.ensures.place
          c.to.ensures.place c.units_to-last.ensures c.in_ok-widen.ensures.wide len made;
    }
