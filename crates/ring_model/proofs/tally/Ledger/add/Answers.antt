use Rattle.ring_model.specs.Ring.{Size}
use Rattle.ring_model.specs.declared.notes.Note.TheVariants.{Kept, Ticked}
use Rattle.ring_model.proofs.Tallies.{at_note}
use Rattle.ring_model.proofs.tally.Ledger.add.Goals as goal

pub returns-in-Kept : goal.returns-in-Kept
returns-in-Kept c = λ room blocks state is.
    let size : Size = record { room = room; blocks = blocks; tov = c.args.tov } in
    at_note c.keep.new.self size state c.args.note.now (Kept c.in-Kept.offer c.in-Kept.found) c.in-Kept.is
    (c.keep.ensures room blocks state c.in-Kept.offer is)

pub returns-in-Ticked : goal.returns-in-Ticked
returns-in-Ticked c = λ room blocks state is.
    let size : Size = record { room = room; blocks = blocks; tov = c.args.tov } in
    at_note c.tick.new.self size state c.args.note.now (Ticked c.in-Ticked.ms c.in-Ticked.found) c.in-Ticked.is
    (c.tick.ensures room blocks state is)
