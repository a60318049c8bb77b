use Rattle.tp_layout.specs.Requests.{size_of}
use Rattle.block_ring.specs.Machines.{open_next}
use Rattle.block_ring.proofs.machine.Machine.keep_next.Given as goal

abbrev pub ghost-open_next : goal.ghost-open_next
ghost-open_next g a = g.state

abbrev pub ghost-keep : goal.ghost-keep
ghost-keep g a = open_next (size_of a.self.now.shape) g.state
