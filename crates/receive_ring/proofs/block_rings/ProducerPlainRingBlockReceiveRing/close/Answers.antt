use Rattle.receive_ring.proofs.BlockCalls.{closed_as}
use Rattle.receive_ring.proofs.block_rings.ProducerPlainRingBlockReceiveRing.close.Goals as goal

pub returns : goal.returns
returns c =
    closed_as c.a_text_is_read_as_it_was_written.ensures c.args.self c.finish-ring.result.0 c.in_ok-closing.field-0
    c.finish-ring.result.1 c.requires.may
    c.finish-ring.ensures.notes c.finish-ring.ensures.texts c.finish-ring.ensures.end c.in_ok-closing.ensures
