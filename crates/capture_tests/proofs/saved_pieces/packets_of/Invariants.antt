use Rattle.std.proofs.Common.{◌≤◌, length, All}
use Rattle.capture_tests.proofs.saved_pieces.packets_of.Given as goal

abbrev pub invariant-loop-size : goal.invariant-loop-size
invariant-loop-size l = All (λ packet. length packet.bytes ≤ 4294967291) l.packets
