use Rattle.std.proofs.Common.{◌≤◌, length, All}
use Rattle.capture_tests.proofs.decoded_captures.text_of.Given as goal

abbrev pub invariant-loop-frame : goal.invariant-loop-frame
invariant-loop-frame l = All (λ packet. length packet.bytes ≤ 4294967291) l.packets
