use Rattle.std.proofs.Common.{◌≡◌, ◌*◌, ◌≤◌, length}
use Rattle.tp_layout.specs.Requests.{room_of}
use Rattle.ring_tests.proofs.threads.feed.Given as goal

-- each look noted at most one put, and a tick
abbrev pub invariant-loop-look : goal.invariant-loop-look
invariant-loop-look l = record {
  room : 142 ≤ room_of l.ring.shape;
  few : length l.ring.notes ≤ 2 * l.look;
  ring : l.ring.end.id ≡ l.initial.ring.end.id;
}
