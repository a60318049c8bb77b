use Rattle.std.proofs.Common.{◌≡◌, length}
use Rattle.tap_saving.specs.inside.Plans.{left_of}
use Rattle.tap_saving.proofs.block_pieces.BlockPieces.turn.Given as goal

-- no byte is lost, and each round leaves a piece less
abbrev pub invariant-loop-first : goal.invariant-loop-first
invariant-loop-first l = left_of l.self ≡ left_of l.initial.self

abbrev pub decreases-loop-first : goal.decreases-loop-first
decreases-loop-first l = length l.self.pieces.now
