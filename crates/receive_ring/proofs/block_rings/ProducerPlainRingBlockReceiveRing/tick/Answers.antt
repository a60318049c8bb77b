use Rattle.receive_ring.proofs.BlockCalls.{ticked_as}
use Rattle.receive_ring.proofs.block_rings.ProducerPlainRingBlockReceiveRing.tick.Goals as goal

pub returns-in-Ok-clause-ok : goal.returns-in-Ok-clause-ok
returns-in-Ok-clause-ok c =
    ticked_as c.a_text_is_read_as_it_was_written.ensures c.args.self.now c.tick.new.self c.args.ms c.in-Ok.ensures.ticked.0
    c.requires.may c.in-Ok.ensures.ticked.1
