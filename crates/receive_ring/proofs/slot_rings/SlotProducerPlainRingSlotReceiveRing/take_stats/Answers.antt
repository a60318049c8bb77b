use Rattle.ring_model.specs.declared.notes.Note.TheVariants.{Counted}
use Rattle.receive_ring.proofs.SlotCalls.{added}
use Rattle.receive_ring.proofs.slot_rings.SlotProducerPlainRingSlotReceiveRing.take_stats.Goals as goal

pub returns-clause-ok : goal.returns-clause-ok
returns-clause-ok c = added c.a_slot_is_read_as_it_was_written.ensures c.args.self.now c.take_stats.new.self Counted
    c.in_ok-take_stats.ensures.taken
