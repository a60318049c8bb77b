use Rattle.std.proofs.Common.{◌≡◌, ◌+◌, ◌<◌, ◌≤◌, length}
use Rattle.tp_layout.specs.Blocks.{last_time, last_time_after}
use Rattle.tp_layout.specs.Checks.{packets_tests}
use Rattle.tp_layout.specs.Faults.{packets_in}
use Rattle.tp_layout.proofs.block_walks.check_packets.Given as goal

-- the first fault and the last time of what is left are those of all
abbrev pub invariant-loop-left : goal.invariant-loop-left
invariant-loop-left l = record {
  tests : packets_tests l.left l.place l.rest ≡ packets_tests l.count l.at l.bytes;
  last : last_time_after l.time (packets_in l.left l.rest) ≡ last_time (packets_in l.count l.bytes);
  some : l.left < l.count → 88 ≤ length l.bytes;
  from : l.at ≤ l.place;
  sum : l.place + length l.rest ≡ l.at + length l.bytes;
}

abbrev pub decreases-loop-left : goal.decreases-loop-left
decreases-loop-left l = l.left
