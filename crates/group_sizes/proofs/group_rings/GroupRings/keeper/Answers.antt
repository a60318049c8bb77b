use Rattle.std.proofs.Common.{◌≡◌, ◌+◌, ◌<◌, true, false, length, sym, ap, ◌∙◌, arith}
use Rattle.std.proofs.lemmas.List.{get_or_default}
use Rattle.std.proofs.lemmas.Nat.{mod_below}
use Rattle.ring_sizes.specs.Courses.{first_course, takes}
use Rattle.group_sizes.specs.Groups.{course_at}
use Rattle.group_sizes.proofs.Keepers.{found, passed_on}
use Rattle.group_sizes.proofs.group_rings.GroupRings.keeper.Goals as goal

pub returns-then-takes-clause-keeper : goal.returns-then-takes-clause-keeper
returns-then-takes-clause-keeper c =
    let rings = c.args.self.now in
    let here : c.loop-left.member < length c.args.courses.now =
    omega (arith, c.loop-left.invariant.inside, c.requires.members) in
    let yes : takes rings.room rings.blocks c.args.need (course_at c.args.courses.now c.loop-left.member) ≡ true =
    ap (takes rings.room rings.blocks c.args.need)
    (get_or_default c.args.courses.now c.loop-left.member (first_course 0) _ here)
    ∙ sym c.takes.ensures ∙ c.if-takes.true in
    sym (found rings c.args.need c.args.courses.now c.args.home c.loop-left.left c.loop-left.member c.loop-left-test.true yes)
    ∙ c.loop-left.invariant.same

pub loop-left-preserved : goal.loop-left-preserved
loop-left-preserved c =
    let rings = c.args.self.now in
    let here : c.loop-left.member < length c.args.courses.now =
    omega (arith, c.loop-left.invariant.inside, c.requires.members) in
    let no : takes rings.room rings.blocks c.args.need (course_at c.args.courses.now c.loop-left.member) ≡ false =
    ap (takes rings.room rings.blocks c.args.need)
    (get_or_default c.args.courses.now c.loop-left.member (first_course 0) _ here)
    ∙ sym c.takes.ensures ∙ c.if-takes.false in
    record {
      inside = mod_below (c.loop-left.member + 1) rings.members c.requires.rings.some;
      same = sym (passed_on rings c.args.need c.args.courses.now c.args.home c.loop-left.left c.loop-left.member
          c.loop-left-test.true no) ∙ c.loop-left.invariant.same;
    }
