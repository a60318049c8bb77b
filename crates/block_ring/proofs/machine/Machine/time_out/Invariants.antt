use Rattle.std.proofs.Common.{true}
use Rattle.block_ring.specs.Machines.{retire_now}
use Rattle.block_ring.proofs.machine.Machine.time_out.Given as goal

abbrev pub ghost-open_blocks : goal.ghost-open_blocks
ghost-open_blocks g a = g.state

abbrev pub ghost-retire_open : goal.ghost-retire_open
ghost-retire_open g a = record { in_hand = 0; state = g.state }

abbrev pub ghost-open_next : goal.ghost-open_next
ghost-open_next g a = retire_now true g.state
