use Rattle.std.proofs.Common.{◌≡◌}
use Rattle.capture_tests.proofs.in_memory.given_by.Given as goal

-- the bytes are what the source gave so far, and it is still the same source
abbrev pub invariant-reading : goal.invariant-reading
invariant-reading g l = ((g.I.Source.seen l.input).given ≡ l.bytes.items)
    × ((g.I.Source.seen l.input).name ≡ (g.I.Source.seen l.fn.input).name)
