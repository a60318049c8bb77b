use Rattle.std.proofs.Common.{◌≡◌, List, refl, sym, ap, ◌∙◌, arith, get_or, length, rules, subst}
use Rattle.ring_sizes.specs.Phases.{AreTried}
use Rattle.ring_sizes.specs.declared.paces.StallTime.{StallTime}
use Rattle.ring_sizes.specs.declared.tries.Reached.{Reached}
use Rattle.tap_sizes.specs.inside.Passes.{AreDropRanges, Clocks, IsTotalRange, greatest_ring}
use Rattle.tap_sizes.proofs.Answering.{answered_by, not_both_ways}
use Rattle.tap_sizes.proofs.MemberLists.{rings_count}
use Rattle.tap_sizes.proofs.answers.answers_of.Goals as goal

pub greatest-group-requires : goal.greatest-group-requires
greatest-group-requires g c =
    let clocks : Clocks = record {
      pace = c.pace_of-pace.result;
      stalls = c.as_slice.result.now;
      end = c.args.dealt.now.end;
    } in
    let count = rings_count c.parts_of-parts.result clocks c.tries_of-tries.result
    c.args.dealt.now.members.items c.in_ok-rings.rings c.in_ok-rings.ensures in
    let some = c.requires.some in
    let same = ap (λ (rings : List Reached). length rings) c.as_slice-2.ensures in
    omega (arith, count, some, same)

pub returns-then-rolls_over : goal.returns-then-rolls_over
returns-then-rolls_over g c =
    let setup = c.args.setup.now in
    let reader = c.args.reader.now in
    let all = c.args.dealt.now.members.items in
    let end = c.args.dealt.now.end in
    let pace = c.pace_of-pace.result in
    let tries = c.tries_of-tries.result in
    let stalls = c.as_slice.result.now in
    let rings = c.in_ok-rings.rings in
    let found = c.greatest-group.ensures in
    let tried : AreTried pace tries = search rules in
    let first = subst (λ (rs : List Reached). found.0 ≡ get_or rs 0 found.0) c.as_slice-2.ensures
    found.1 in
    let group = found.2 ∙ ap (λ (rs : List Reached). greatest_ring found.0 rs) c.as_slice-2.ensures in
    let rolls = sym c.rolls_over.ensures ∙ c.if-rolls_over.true in
    answered_by setup reader all end c.args.files _ pace c.time_out-tov.result tries stalls
    c.parts_of-parts.result rings found.0 c.parts_of-parts.ensures.parts
    c.time_out-tov.ensures.time_out c.pace_of-pace.ensures.pace
    c.tries_of-tries.ensures.tries tried c.tries_of-tries.ensures.few
    (c.as_slice.ensures.value ∙ c.in_ok-stalls.ensures) c.in_ok-rings.ensures first c.requires.some refl group
    (λ alone. absurd (not_both_ways _ rolls alone)) (λ alone. absurd (not_both_ways _ rolls alone))
    (λ alone. absurd (not_both_ways _ rolls alone))
    (λ is. (c.new.ensures, c.new-then-rolls_over.ensures, refl))

pub returns : goal.returns
returns g c =
    let setup = c.args.setup.now in
    let reader = c.args.reader.now in
    let all = c.args.dealt.now.members.items in
    let end = c.args.dealt.now.end in
    let pace = c.pace_of-pace.result in
    let tries = c.tries_of-tries.result in
    let stalls = c.as_slice.result.now in
    let rings = c.in_ok-rings.rings in
    let found = c.greatest-group.ensures in
    let tried : AreTried pace tries = search rules in
    let first = subst (λ (rs : List Reached). found.0 ≡ get_or rs 0 found.0) c.as_slice-2.ensures
    found.1 in
    let group = found.2 ∙ ap (λ (rs : List Reached). greatest_ring found.0 rs) c.as_slice-2.ensures in
    let alone = sym c.rolls_over.ensures ∙ c.if-rolls_over.false in
    let same = c.as_slice-3.ensures.value ∙ sym c.as_slice.ensures.value in
    let ranges = subst (λ (ss : List StallTime). AreDropRanges c.parts_of-parts.result
    (record { pace = pace; stalls = ss; end = end }) tries all c.in_ok-drops.drops.0) same
    c.in_ok-drops.ensures.each in
    let total = subst (λ (ss : List StallTime). IsTotalRange c.parts_of-parts.result
    (record { pace = pace; stalls = ss; end = end }) tries all c.in_ok-drops.drops.1) same
    c.in_ok-drops.ensures.total in
    answered_by setup reader all end c.args.files _ pace c.time_out-tov.result tries stalls
    c.parts_of-parts.result rings found.0 c.parts_of-parts.ensures.parts
    c.time_out-tov.ensures.time_out c.pace_of-pace.ensures.pace
    c.tries_of-tries.ensures.tries tried c.tries_of-tries.ensures.few
    (c.as_slice.ensures.value ∙ c.in_ok-stalls.ensures) c.in_ok-rings.ensures first c.requires.some refl group
    (λ is. refl) (λ is. ranges) (λ is. total) (λ rolls. absurd (not_both_ways _ rolls alone))
