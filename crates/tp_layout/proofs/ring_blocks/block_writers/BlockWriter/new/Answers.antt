use Rattle.std.proofs.Common.{arith}
use Rattle.tp_layout.proofs.Opens.{opened}
use Rattle.tp_layout.proofs.ring_blocks.block_writers.BlockWriter.new.Goals as goal

pub returns-clause-opened : goal.returns-clause-opened
returns-clause-opened c =
    rw (c.put_empty.ensures c.args.shape.now c.first-first.ensures.value)
    (opened c.args.shape.now c.args.number c.over-writer.result.bytes (omega (arith, c.ranges.number.fits)))
