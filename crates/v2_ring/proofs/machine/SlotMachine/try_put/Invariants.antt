use Rattle.v2_ring.proofs.machine.SlotMachine.try_put.Given as goal

abbrev pub ghost-fill : goal.ghost-fill
ghost-fill g a = g.state
