use Rattle.std.proofs.Common.{◌≡◌, length}
use Rattle.ring_tests.proofs.sent_frames.frames.Given as goal

-- one frame for each length so far
abbrev pub invariant-loop-index : goal.invariant-loop-index
invariant-loop-index l = length l.frames ≡ l.index
