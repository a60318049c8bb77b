use Rattle.std.proofs.Common.{◌≤◌, ◌+◌, length}
use Rattle.capture_file.proofs.record_reader.small_data.Given as goal

abbrev pub invariant-loop-size : goal.invariant-loop-size
invariant-loop-size l = l.size + length l.rest ≤ length l.bytes

abbrev pub decreases-loop-size : goal.decreases-loop-size
decreases-loop-size l = length l.rest
