use Rattle.std.proofs.Common.{ℕ, ◌<◌, length, set, refl, ap, ◌∙◌, arith}
use Rattle.std.proofs.lemmas.List.{get_or_default}
use Rattle.group_sizes.specs.Groups.{Group, keeper_of}
use Rattle.group_sizes.proofs.GivenPackets.{given_is, moved, unmoved}
use Rattle.ring_sizes.specs.Courses.{fed, first_course}
use Rattle.group_sizes.proofs.group_rings.GroupRings.give.Goals as goal

pub returns-then-self-clause-goes : goal.returns-then-self-clause-goes
returns-then-self-clause-goes c =
    let rings = c.args.self.now in
    let group : Group = record { courses = c.args.courses.now; presents = c.args.presents.now } in
    let member : ℕ = c.keeper-member.result in
    let here : member < length c.args.courses.now = omega (arith, c.keeper-member.ensures.inside, c.requires.group.members) in
    given_is rings c.args.tov c.args.need c.args.route group member c.take.new.self
    (set c.args.presents.now c.from.result member)
    (c.take.ensures.goes
    ∙ ap (fed rings.room rings.blocks c.args.tov c.args.need)
    (get_or_default c.args.courses.now member _ (first_course 0) here))
    (ap (λ (cpu : ℕ). set c.args.presents.now cpu member) c.from.ensures
    ∙ moved rings.by_present (set c.args.presents.now c.args.route.cpu member) c.args.presents.now c.if-self.true)
    (c.keeper-member.ensures.keeper
    ∙ ap (keeper_of rings c.args.need c.args.courses.now) (c.home-home.ensures.home group refl))

pub returns-else-self-clause-goes : goal.returns-else-self-clause-goes
returns-else-self-clause-goes c =
    let rings = c.args.self.now in
    let group : Group = record { courses = c.args.courses.now; presents = c.args.presents.now } in
    let member : ℕ = c.keeper-member.result in
    let here : member < length c.args.courses.now = omega (arith, c.keeper-member.ensures.inside, c.requires.group.members) in
    given_is rings c.args.tov c.args.need c.args.route group member c.take.new.self c.args.presents.now
    (c.take.ensures.goes
    ∙ ap (fed rings.room rings.blocks c.args.tov c.args.need)
    (get_or_default c.args.courses.now member _ (first_course 0) here))
    (unmoved rings.by_present (set c.args.presents.now c.args.route.cpu member) c.args.presents.now c.if-self.false)
    (c.keeper-member.ensures.keeper
    ∙ ap (keeper_of rings c.args.need c.args.courses.now) (c.home-home.ensures.home group refl))
