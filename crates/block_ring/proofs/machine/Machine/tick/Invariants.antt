use Rattle.block_ring.proofs.machine.Machine.tick.Given as goal

abbrev pub ghost-is_idle : goal.ghost-is_idle
ghost-is_idle g a = record g.state { clock = a.self.now.clock; deadline = a.self.now.deadline }

abbrev pub ghost-time_out : goal.ghost-time_out
ghost-time_out g a = record g.state { clock = a.self.now.clock; deadline = a.self.now.deadline }
