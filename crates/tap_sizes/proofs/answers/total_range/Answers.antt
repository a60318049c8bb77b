use Rattle.std.proofs.Common.{arith}
use Rattle.tap_sizes.specs.inside.Passes.{Clocks}
use Rattle.tap_sizes.proofs.MemberLists.{total_of_one}
use Rattle.tap_sizes.proofs.answers.total_range.Goals as goal

pub returns-in-len1 : goal.returns-in-len1
returns-in-len1 g c =
    let clocks : Clocks =
    record { pace = c.args.pace.now; stalls = c.args.stalls.now; end = c.args.dealt.now.end } in
    total_of_one c.args.parts.now clocks c.args.tries.now c.args.dealt.now.members.items c.args.ranges.now _
    (omega (arith, c.in-len1.len_at_least, c.in-len1.len_below)) c.requires.ranges
