use Rattle.std.proofs.Common.{◌≡◌, ◌≤◌, false, None, length}
use Rattle.tp_layout.specs.Requests.{numbers_of}
use Rattle.ring_tests.proofs.slot_threads.read_all.Given as goal

-- each look took at most one slot, and no slot is in hand
abbrev pub invariant-loop-look : goal.invariant-loop-look
invariant-loop-look l = record {
  kind : l.walker.kind ≡ numbers_of l.reader.shape;
  held : l.reader.held ≡ None;
  hand : l.walker.in_hand ≡ false;
  few : length l.reader.taken ≤ l.look;
  ring : l.walker.id ≡ l.initial.walker.id;
}
