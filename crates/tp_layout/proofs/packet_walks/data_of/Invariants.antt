use Rattle.std.proofs.Common.{◌≡◌, ◌++◌}
use Rattle.tp_layout.specs.Checks.{PassesTests}
use Rattle.tp_layout.specs.Faults.{packets_in}
use Rattle.tp_layout.specs.Readers.{data_of}
use Rattle.tp_layout.proofs.packet_walks.data_of.Given as goal

-- the data of the packets that are left follows what was copied
abbrev pub invariant-loop-left : goal.invariant-loop-left
invariant-loop-left l = record {
  passes : PassesTests l.left l.rest;
  joined : l.data.items ++ data_of (packets_in l.left l.rest) ≡ data_of (packets_in l.count l.bytes);
}

abbrev pub decreases-loop-left : goal.decreases-loop-left
decreases-loop-left l = l.left
