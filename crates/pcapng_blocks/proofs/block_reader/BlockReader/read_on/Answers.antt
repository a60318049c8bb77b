use Rattle.pcapng_blocks.proofs.Names.{◌+◌, length, arith, IfOk-weaker}
use Rattle.pcapng_blocks.proofs.block_reader.BlockReader.read_on.Goals as goal

pub returns-in-Skipping-clause-sound : goal.returns-in-Skipping-clause-sound
returns-in-Skipping-clause-sound c =
    IfOk-weaker c.skip_on.result _ _ (λ progress h fed kept. let here = rw c.in-Skipping.is at kept in
    h (fed + length c.args.piece.now) (omega (arith, here.1))) c.skip_on.ensures.sound
