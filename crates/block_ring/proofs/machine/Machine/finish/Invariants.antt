use Rattle.block_ring.proofs.machine.Machine.finish.Given as goal

abbrev pub ghost-is_idle : goal.ghost-is_idle
ghost-is_idle g a = g.state

abbrev pub ghost-retire_open : goal.ghost-retire_open
ghost-retire_open g a = record { in_hand = 0; state = g.state }
