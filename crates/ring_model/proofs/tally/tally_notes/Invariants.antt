use Rattle.std.proofs.Common.{drop}
use Rattle.ring_model.specs.Ring.{AtEachSize}
use Rattle.ring_model.proofs.Tallies.{Goes, Sums}
use Rattle.ring_model.proofs.tally.tally_notes.Given as goal

abbrev pub invariant-loop-note : goal.invariant-loop-note
invariant-loop-note l = record {
  goes : AtEachSize l.tov (λ size. Goes size l.note-items (drop l.note-index l.note-items) l.tally.counts l.ledger);
  sums : Sums l.note-index l.tally.counts l.tally.totals l.ledger;
}
