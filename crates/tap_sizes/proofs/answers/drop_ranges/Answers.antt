use Rattle.std.proofs.Common.{◌<◌, List, ap, get_or, length, subst, ◌∙◌}
use Rattle.ring_sizes.specs.declared.paces.Arrival.{Arrival}
use Rattle.tap_sizes.specs.inside.Passes.{Clocks}
use Rattle.tap_sizes.proofs.MemberLists.{own_range}
use Rattle.tap_sizes.proofs.Members.{one_range_more}
use Rattle.tap_sizes.proofs.answers.drop_ranges.Goals as goal

pub loop-arrivals-preserved : goal.loop-arrivals-preserved
loop-arrivals-preserved g c =
    let clocks : Clocks =
    record { pace = c.args.pace.now; stalls = c.args.stalls.now; end = c.args.dealt.now.end } in
    let value = c.deref-arrivals-items.ensures.value in
    let is = c.arrivals-item.is
    ∙ ap (λ (all : List (List Arrival)). get_or all c.loop-arrivals.arrivals-index
    c.arrivals-item.result) value in
    let less = subst (λ (all : List (List Arrival)). c.loop-arrivals.arrivals-index < length all) value
    c.loop-arrivals-test.true in
    one_range_more c.args.parts.now clocks c.args.tries.now c.args.dealt.now.members.items
    c.loop-arrivals.ranges c.push.new.self c.loop-arrivals.arrivals-index c.arrivals-item.result
    c.in_ok-range.range is less c.in_ok-push.ensures.ok c.loop-arrivals.invariant
    (own_range c.args.parts.now clocks c.args.tries.now c.arrivals-item.result _ _ c.from_ref-member.ensures.value
    c.in_ok-range.ensures)
