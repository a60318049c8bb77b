use Rattle.v2_ring.proofs.machine.SlotMachine.put.Given as goal

abbrev pub ghost-try_put : goal.ghost-try_put
ghost-try_put g a = g.state
