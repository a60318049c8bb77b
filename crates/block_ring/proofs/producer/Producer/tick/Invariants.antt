use Rattle.ring_model.specs.Ring.{state_of}
use Rattle.tp_layout.specs.Requests.{size_of}
use Rattle.block_ring.proofs.producer.Producer.tick.Given as goal

abbrev pub ghost-tick : goal.ghost-tick
ghost-tick g a = state_of (size_of a.self.now.shape) a.self.now.notes.items
