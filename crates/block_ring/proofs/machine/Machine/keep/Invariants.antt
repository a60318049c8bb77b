use Rattle.block_ring.specs.Machines.{text_of}
use Rattle.block_ring.proofs.machine.Machine.keep.Given as goal

abbrev pub ghost-add : goal.ghost-add
ghost-add g a = text_of g.state
