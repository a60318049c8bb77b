use Rattle.std.proofs.Common.{arith}
use Rattle.ring_model.proofs.Tallies.{begins, ends_counts, ends_totals, goes_next, no_sums, sums_next}
use Rattle.ring_model.proofs.tally.tally_notes.Goals as goal

pub loop-note-init : goal.loop-note-init
loop-note-init c = record {
  goes = λ room blocks. rw c.new.ensures
      (begins (record { room = room; blocks = blocks; tov = c.args.tov }) _ _ (c.new-ledger.ensures room blocks));
  sums = rw c.new.ensures (no_sums _ (record { room = 0; blocks = 0; tov = c.args.tov }) (c.new-ledger.ensures 0 0));
}

pub loop-note-preserved : goal.loop-note-preserved
loop-note-preserved c = record {
  goes = λ room blocks.
      goes_next (record { room = room; blocks = blocks; tov = c.args.tov }) c.as_slice-note-items.result.now
      c.loop-note.note-index c.note-item.result
      c.loop-note.tally.counts c.take.new.self.counts c.stats.result c.loop-note.ledger c.add.new.self (omega arith)
      c.note-item.is
      c.stats.ensures c.in_ok-take.ensures.counts (c.add.ensures room blocks) (c.loop-note.invariant.goes room blocks);
  sums =
      let before = c.loop-note.invariant.goes 0 0 in
      sums_next c.loop-note.note-index c.note-item.result c.loop-note.tally.counts c.take.new.self.counts c.stats.result
      c.loop-note.tally.totals
      c.take.new.self.totals c.loop-note.ledger c.add.new.self c.stats.ensures c.in_ok-take.ensures.counts
      c.in_ok-take.ensures.totals
      (record { room = 0; blocks = 0; tov = c.args.tov }) before.state before.is
      (c.add.ensures 0 0 before.state before.is)
      c.loop-note.invariant.sums;
}

pub returns-clause-counts : goal.returns-clause-counts
returns-clause-counts c = λ room blocks.
    ends_counts (record { room = room; blocks = blocks; tov = c.args.tov }) c.as_slice-note-items.result.now c.args.notes.now
    c.loop-note.note-index _ _
    (omega arith) c.as_slice-note-items.ensures (c.loop-note.invariant.goes room blocks)

pub returns-clause-totals : goal.returns-clause-totals
returns-clause-totals c = λ room blocks.
    ends_totals (record { room = room; blocks = blocks; tov = c.args.tov }) c.as_slice-note-items.result.now c.args.notes.now
    c.loop-note.note-index _
    c.stats-2.result c.loop-note.tally.totals c.plus-tally.result _
    (omega arith) c.as_slice-note-items.ensures c.stats-2.ensures c.plus-tally.ensures c.loop-note.invariant.sums
    (c.loop-note.invariant.goes room blocks)
