use Rattle.receive_ring.proofs.SlotCalls.{closed_as}
use Rattle.receive_ring.proofs.slot_rings.SlotProducerPlainRingSlotReceiveRing.close.Goals as goal

pub returns : goal.returns
returns c =
    closed_as c.a_slot_is_read_as_it_was_written.ensures c.args.self c.finish-ring.result.0 c.in_ok-closing.field-0
    c.finish-ring.result.1
    c.finish-ring.ensures.notes c.finish-ring.ensures.end c.finish-ring.ensures.texts c.in_ok-closing.ensures
