use Rattle.pcapng_blocks.proofs.Names.{arith, spot_of}
use Rattle.pcapng_blocks.proofs.Ends.{few_kept}
use Rattle.pcapng_blocks.proofs.decoder.BlockDecoder.rest.Goals as goal

pub returns-clause-few : goal.returns-clause-few
returns-clause-few c =
    omega (
      arith,
      few_kept c.self.inside.stage (spot_of c.self.inside.cursor c.self.inside.held.interfaces.items)
          c.self.inside.held.kept.items c.self.inside.fed c.self.invariant.here.kept,
      c.len.ensures,
    )
