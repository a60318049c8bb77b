use Rattle.std.proofs.Common.{◌≡◌, ◌≤◌, ◌++◌, ℕ, List, [], length}
use Rattle.std.specs.Io.KnownBytes.{Appends}
use Rattle.std.specs.Vec.{vec_capacity}
use Rattle.tap_outside.proofs.pieces.write_each.Given as goal

-- what was written and what is left are all bytes; the buffer is empty, and has room for a piece
abbrev pub invariant-loop-to : goal.invariant-loop-to
invariant-loop-to g l =
    ((before : List ℕ)
    × Appends (g.S.Sink.seen l.initial.to).written (g.S.Sink.seen l.to).written before
    × (before ++ g.P.Pieces.left l.pieces ≡ g.P.Pieces.left l.initial.pieces))
    × (l.buffer.items ≡ [])
    × (64 ≤ vec_capacity l.buffer)

abbrev pub decreases-loop-to : goal.decreases-loop-to
decreases-loop-to g l = length (g.P.Pieces.left l.pieces)
