use Rattle.std.proofs.Common.{false}
use Rattle.block_ring.specs.Machines.{retire_now}
use Rattle.block_ring.proofs.machine.Machine.put.Given as goal

abbrev pub ghost-has_room : goal.ghost-has_room
ghost-has_room g a = g.state

abbrev pub ghost-keep : goal.ghost-keep
ghost-keep g a = g.state

abbrev pub ghost-open_blocks : goal.ghost-open_blocks
ghost-open_blocks g a = g.state

abbrev pub ghost-retire_open : goal.ghost-retire_open
ghost-retire_open g a = record { in_hand = 0; state = g.state }

abbrev pub ghost-keep_next : goal.ghost-keep_next
ghost-keep_next g a = retire_now false g.state
