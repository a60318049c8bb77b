-- The ranges of the members so far.
use Rattle.std.proofs.Common.{take}
use Rattle.tap_sizes.specs.inside.Passes.{AreDropRanges}
use Rattle.tap_sizes.proofs.answers.drop_ranges.Given as goal

abbrev pub invariant-loop-arrivals : goal.invariant-loop-arrivals
invariant-loop-arrivals g l =
    AreDropRanges l.parts
    (record { pace = l.pace; stalls = l.stalls; end = l.dealt.end }) l.tries
    (take l.arrivals-index l.dealt.members.items) l.ranges
