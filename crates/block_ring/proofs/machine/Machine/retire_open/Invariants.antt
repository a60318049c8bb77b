use Rattle.block_ring.specs.Machines.{text_of}
use Rattle.block_ring.proofs.machine.Machine.retire_open.Given as goal

abbrev pub ghost-status : goal.ghost-status
ghost-status g a = g.at.state

abbrev pub ghost-close : goal.ghost-close
ghost-close g a = text_of g.at.state
