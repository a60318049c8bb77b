use Rattle.slot_layout.specs.SlotSteps.{slot_state_of}
use Rattle.v2_ring.proofs.producer.SlotProducer.take_stats.Given as goal

abbrev pub ghost-take_stats : goal.ghost-take_stats
ghost-take_stats g a = slot_state_of a.self.now.notes.items
