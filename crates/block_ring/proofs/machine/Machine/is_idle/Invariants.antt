use Rattle.block_ring.specs.Machines.{text_of}
use Rattle.block_ring.proofs.machine.Machine.is_idle.Given as goal

abbrev pub ghost-is_empty : goal.ghost-is_empty
ghost-is_empty g a = text_of g.state
