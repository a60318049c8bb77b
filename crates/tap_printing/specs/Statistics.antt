-- The statistics of a member's notes, by what its ring is made of.
use Rattle.std.specs.Prelude.{List}
use Rattle.ring_model.specs.Fates.{counts_of, totals_of}
use Rattle.ring_model.specs.Ring.{Size}
use Rattle.ring_model.specs.declared.notes.Note.{Note}
use Rattle.ring_model.specs.declared.notes.Stats.{Stats}
use Rattle.slot_layout.specs.SlotFates.{slot_counts_of, slot_totals_of, without_freezes}
use Rattle.run_reports.specs.declared.ring_kind.RingKind.{RingKind}
use Rattle.run_reports.specs.declared.ring_kind.RingKind.TheVariants.{Blocks, Slots}

-- the statistics that each Counted note took, in order
unfoldable pub counts_by : RingKind → Size → List Note → List Stats
counts_by Blocks size notes = counts_of size notes
counts_by Slots size notes = slot_counts_of notes

-- the statistics over the whole run
unfoldable pub totals_by : RingKind → Size → List Note → Stats
totals_by Blocks size notes = totals_of size notes
totals_by Slots size notes = slot_totals_of notes

-- those of a ring of this kind, from those that a ring of blocks with the same notes has
abbrev pub seen_by : RingKind → Stats → Stats
seen_by Blocks stats = stats
seen_by Slots stats = without_freezes stats
