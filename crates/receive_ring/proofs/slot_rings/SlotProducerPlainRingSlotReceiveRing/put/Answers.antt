use Rattle.receive_ring.proofs.SlotCalls.{put_kept}
use Rattle.receive_ring.proofs.slot_rings.SlotProducerPlainRingSlotReceiveRing.put.Goals as goal

pub returns-clause-ok : goal.returns-clause-ok
returns-clause-ok c = put_kept c.a_slot_is_read_as_it_was_written.ensures c.args.self.now c.put.new.self c.args.offer
    c.put.result c.put.ensures.put
