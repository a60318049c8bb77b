use Rattle.block_ring.specs.Machines.{text_of}
use Rattle.block_ring.proofs.machine.Machine.has_room.Given as goal

abbrev pub ghost-has_room : goal.ghost-has_room
ghost-has_room g a = text_of g.state
