use Rattle.ring_model.specs.declared.notes.Note.TheVariants.{Counted}
use Rattle.receive_ring.proofs.BlockCalls.{added}
use Rattle.receive_ring.proofs.block_rings.ProducerPlainRingBlockReceiveRing.take_stats.Goals as goal

pub returns-clause-ok : goal.returns-clause-ok
returns-clause-ok c = added c.a_text_is_read_as_it_was_written.ensures c.args.self.now c.take_stats.new.self Counted
    c.requires.may c.in_ok-take_stats.ensures.taken.0
