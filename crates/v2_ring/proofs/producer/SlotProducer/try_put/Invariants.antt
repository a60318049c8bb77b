use Rattle.slot_layout.specs.SlotSteps.{slot_state_of}
use Rattle.v2_ring.proofs.producer.SlotProducer.try_put.Given as goal

abbrev pub ghost-try_put : goal.ghost-try_put
ghost-try_put g a = slot_state_of a.self.now.notes.items
