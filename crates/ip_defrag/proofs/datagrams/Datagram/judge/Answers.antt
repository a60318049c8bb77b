-- After all held fragments by the end, and otherwise by the one that is met.
use Rattle.std.proofs.Common.{◌∙◌, ◌<◌, ◌≤◌, ap, sym, arith, Bool, cond}
use Rattle.ip_defrag.specs.Extents.{reach_of}
use Rattle.ip_defrag.specs.Fragments.{from_of, to_of}
use Rattle.ip_defrag.specs.Grouped.{Group, judgement}
use Rattle.ip_defrag.specs.declared.rules.Judgement.TheVariants.{Conflict, Fits}
use Rattle.ip_defrag.proofs.Judged.{after_all, reach_is}
use Rattle.ip_defrag.proofs.datagrams.Datagram.judge.Goals as goal

pub returns-then-from-self-clause-judged : goal.returns-then-from-self-clause-judged
returns-then-from-self-clause-judged c =
    let after : c.self.inside.extent.reach ≤ from_of c.args.new.now =
    omega (arith, c.from.ensures.place, c.if-from-self.true) in
    let some : from_of c.args.new.now < to_of c.args.new.now = omega (arith, c.from.ensures.place, c.from.ensures.some) in
    c.apart.ensures ∙ ap (λ (b : Bool). cond b Conflict Fits) c.is_some.ensures
    ∙ sym (after_all c.args.new.now c.self.inside.fragments.items c.self.inside.extent c.self.invariant.0 some after)
    ∙ ap (λ (g : Group). judgement c.args.new.now g.fragments) c.self.view_is

pub judge_marked-requires-clause-early : goal.judge_marked-requires-clause-early
judge_marked-requires-clause-early c =
    let reach = reach_is c.self.inside.fragments.items c.self.inside.extent c.self.invariant.0 in
    let same = ap reach_of c.deref-3.ensures.value in
    omega (arith, reach, same, c.from.ensures.place, c.if-from-self.false)
