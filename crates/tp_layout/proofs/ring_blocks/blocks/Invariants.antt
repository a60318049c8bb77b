use Rattle.std.proofs.Common.{◌≡◌, replicate}
use Rattle.tp_layout.specs.BlockWrites.{zero_block}
use Rattle.tp_layout.proofs.ring_blocks.blocks.Given as goal

-- one block of zeros for each round
abbrev pub invariant-loop : goal.invariant-loop
invariant-loop l = l.blocks.items ≡ replicate l.counter (zero_block l.shape)
