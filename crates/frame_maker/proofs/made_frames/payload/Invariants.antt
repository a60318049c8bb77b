-- The bytes so far.
use Rattle.std.proofs.Common.{◌≡◌}
use Rattle.frame_maker.specs.Made.{payload_of}
use Rattle.frame_maker.proofs.made_frames.payload.Given as goal

abbrev pub invariant-loop-place : goal.invariant-loop-place
invariant-loop-place l = l.bytes.items ≡ payload_of l.index l.place
