use Rattle.receive_ring.proofs.BlockCalls.{put_kept}
use Rattle.receive_ring.proofs.block_rings.ProducerPlainRingBlockReceiveRing.put.Goals as goal

pub returns-clause-ok : goal.returns-clause-ok
returns-clause-ok c = put_kept c.a_text_is_read_as_it_was_written.ensures c.args.self.now c.put.new.self c.args.offer
    c.put.result c.requires.may c.put.ensures.put
