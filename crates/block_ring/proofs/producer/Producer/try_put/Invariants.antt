use Rattle.ring_model.specs.Ring.{state_of}
use Rattle.tp_layout.specs.Requests.{size_of}
use Rattle.block_ring.proofs.producer.Producer.try_put.Given as goal

abbrev pub ghost-try_put : goal.ghost-try_put
ghost-try_put g a = state_of (size_of a.self.now.shape) a.self.now.notes.items
