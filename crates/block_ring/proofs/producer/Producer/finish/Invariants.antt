use Rattle.ring_model.specs.Ring.{state_of}
use Rattle.tp_layout.specs.Requests.{size_of}
use Rattle.block_ring.proofs.producer.Producer.finish.Given as goal

abbrev pub ghost-finish : goal.ghost-finish
ghost-finish g a = state_of (size_of a.self.shape) a.self.notes.items
