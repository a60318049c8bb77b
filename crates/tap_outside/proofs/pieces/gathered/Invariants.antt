use Rattle.std.proofs.Common.{◌≡◌, ◌≤◌, ◌+◌, ◌++◌, length}
use Rattle.std.specs.Vec.{vec_capacity}
use Rattle.tap_outside.proofs.pieces.gathered.Given as goal

-- what was gathered and what is left are all bytes, and there is room for more
abbrev pub invariant-loop-bytes : goal.invariant-loop-bytes
invariant-loop-bytes g l =
    (l.bytes.items ++ g.P.Pieces.left l.pieces ≡ g.P.Pieces.left l.initial.pieces)
    × (length l.bytes.items + 64 ≤ vec_capacity l.bytes)

abbrev pub decreases-loop-bytes : goal.decreases-loop-bytes
decreases-loop-bytes g l = length (g.P.Pieces.left l.pieces)
