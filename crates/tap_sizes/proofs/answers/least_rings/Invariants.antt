-- The rings of the members so far.
use Rattle.std.proofs.Common.{take}
use Rattle.tap_sizes.specs.inside.Passes.{AreFirstMost}
use Rattle.tap_sizes.proofs.answers.least_rings.Given as goal

abbrev pub invariant-loop-arrivals : goal.invariant-loop-arrivals
invariant-loop-arrivals g l =
    AreFirstMost l.parts (record { pace = l.pace; stalls = l.stalls; end = l.dealt.end }) l.tries
    (take l.arrivals-index l.dealt.members.items) l.rings
