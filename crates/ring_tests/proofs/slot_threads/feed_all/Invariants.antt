use Rattle.std.proofs.Common.{◌≡◌, ◌≤◌, length}
use Rattle.ring_tests.proofs.slot_threads.feed_all.Given as goal

-- each look noted at most one put
abbrev pub invariant-loop-look : goal.invariant-loop-look
invariant-loop-look l = record {
  fits : 126 ≤ l.ring.shape.frame_size;
  few : length l.ring.notes ≤ l.look;
  ring : l.ring.end.id ≡ l.initial.ring.end.id;
}
