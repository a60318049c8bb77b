-- The mark that is found is that of the fragment to compare with.
use Rattle.std.proofs.Common.{◌∙◌, ap, sym, refl, arith, Bool, cond}
use Rattle.ip_defrag.specs.Extents.{extent_of}
use Rattle.ip_defrag.specs.declared.rules.Judgement.TheVariants.{Conflict, Fits}
use Rattle.ip_defrag.proofs.Judged.{met_one, unmet}
use Rattle.ip_defrag.proofs.datagrams.judge_marked.Goals as goal

pub met-requires : goal.met-requires
met-requires c =
    let all = c.requires.marked.all in
    omega (arith, all, c.requires.early)

pub overflow_sub-number : goal.overflow_sub-number
overflow_sub-number c =
    let one = met_one c.args.new.now c.args.fragments.now c.args.marks.now c.in-Some.number c.requires.held c.requires.marked
    c.requires.some (sym c.met.ensures ∙ c.in-Some.is) in
    omega (arith, one.0)

pub bounds-fragments-number : goal.bounds-fragments-number
bounds-fragments-number c =
    let one = met_one c.args.new.now c.args.fragments.now c.args.marks.now c.in-Some.number c.requires.held c.requires.marked
    c.requires.some (sym c.met.ensures ∙ c.in-Some.is) in
    omega (arith, one.0, one.1)

pub returns-in-Some : goal.returns-in-Some
returns-in-Some c =
    let one = met_one c.args.new.now c.args.fragments.now c.args.marks.now c.in-Some.number c.requires.held c.requires.marked
    c.requires.some (sym c.met.ensures ∙ c.in-Some.is) in
    let judged = one.2 c.index-fragments-number.result in
    cc (c.beside.ensures, c.index-fragments-number.is, judged)

pub returns-in-None : goal.returns-in-None
unfolding extent_of
returns-in-None c =
    let frames = c.args.fragments.now in
    c.apart.ensures ∙ ap (λ (b : Bool). cond b Conflict Fits) c.is_last.ensures
    ∙ sym (unmet c.args.new.now frames (extent_of frames) c.args.marks.now (record { held = c.requires.held; counted = refl })
    c.requires.marked c.requires.some c.requires.early (sym c.met.ensures ∙ c.in-None.is))
