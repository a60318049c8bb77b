use Rattle.std.proofs.Common.{◌≡◌, ◌≤◌, false, length}
use Rattle.ring_words.specs.PlainRings.{has_block}
use Rattle.ring_tests.proofs.acts.run.Given as goal

abbrev pub invariant-loop-act : goal.invariant-loop-act
invariant-loop-act l = record {
  shape : l.shape ≡ l.ring.shape;
  hand : has_block l.ring.end ≡ false;
  few : length l.ring.notes ≤ l.act-index;
}

abbrev pub invariant-loop : goal.invariant-loop
invariant-loop l = has_block l.end ≡ false
