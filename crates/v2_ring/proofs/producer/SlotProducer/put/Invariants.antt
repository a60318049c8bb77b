use Rattle.slot_layout.specs.SlotSteps.{slot_state_of}
use Rattle.v2_ring.proofs.producer.SlotProducer.put.Given as goal

abbrev pub ghost-put : goal.ghost-put
ghost-put g a = slot_state_of a.self.now.notes.items
