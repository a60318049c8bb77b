use Rattle.std.proofs.Common.{arith}
use Rattle.tp_layout.proofs.Opens.{opened}
use Rattle.tp_layout.proofs.block_writes.write_header.Goals as goal

pub returns-clause-opened : goal.returns-clause-opened
returns-clause-opened c =
    rw (c.put_empty.ensures c.args.shape.now c.first-first.ensures.value)
    (opened c.args.shape.now c.args.number c.args.block.now.bytes (omega (arith, c.ranges.number.fits)))
