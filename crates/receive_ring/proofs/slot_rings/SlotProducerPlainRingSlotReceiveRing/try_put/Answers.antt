use Rattle.receive_ring.proofs.SlotCalls.{try_kept}
use Rattle.receive_ring.proofs.slot_rings.SlotProducerPlainRingSlotReceiveRing.try_put.Goals as goal

pub returns-clause-ok : goal.returns-clause-ok
returns-clause-ok c = try_kept c.a_slot_is_read_as_it_was_written.ensures c.args.self.now c.try_put.new.self c.args.offer
    c.try_put.result c.try_put.ensures.tried
