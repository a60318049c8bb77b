use Rattle.std.proofs.Common.{◌≡◌, ◌≤◌, false, None, length}
use Rattle.ring_words.specs.PlainRings.{has_block}
use Rattle.tp_layout.specs.Requests.{numbers_of}
use Rattle.ring_tests.proofs.plain_runs.run.Given as goal

-- each act made at most one note and read at most one slot, and no slot is in hand
abbrev pub invariant-loop-act : goal.invariant-loop-act
invariant-loop-act l = record {
  fits : 126 ≤ l.ring.shape.frame_size;
  few : length l.ring.notes ≤ l.act-index;
  kind : l.ring.end.kind ≡ numbers_of l.reader.shape;
  hand : has_block l.ring.end ≡ false;
  held : l.reader.held ≡ None;
  read : length l.reader.taken ≤ l.act-index;
  others : l.others ≤ l.act-index;
}
