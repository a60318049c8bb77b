use Rattle.std.proofs.Common.{◌∙◌}
use Rattle.tp_layout.proofs.OneShape.{one_shape}
use Rattle.cpu_feeders.proofs.walker.take_next.Goals as goal

pub read_block-walker-requires-clause-readable : goal.read_block-walker-requires-clause-readable
read_block-walker-requires-clause-readable g c =
    let block = c.in-Some.block in
    let took = c.in-Some.ensures.took in
    record {
      shape_is = one_shape block.shape (g.T.Taker.base c.args.walker.now.taker).shape
          (c.in-Some.ensures.kind ∙ c.requires.kind);
      text = (_, _, took.is_ready);
    }
