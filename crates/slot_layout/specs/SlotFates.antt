-- The statistics of a ring of slots. It never freezes.
use Rattle.std.specs.Prelude.{◌+◌, List, [], ◌∷◌}
use Rattle.ring_model.specs.Fates.{sum_of}
use Rattle.ring_model.specs.declared.notes.Note.{Note}
use Rattle.ring_model.specs.declared.notes.Note.TheVariants.{Counted}
use Rattle.ring_model.specs.declared.notes.Stats.{Stats}
use Rattle.slot_layout.specs.SlotSteps.{SlotState, first_slot_state, slot_after}

-- the statistics of a state: packets are those kept and those dropped
abbrev pub slot_stats_of : SlotState → Stats
slot_stats_of state = record {
  packets = state.kept + state.dropped;
  drops = state.dropped;
  freezes = 0;
}

-- the statistics that each Counted note took
abbrev pub slot_counts_from : SlotState → List Note → List Stats
slot_counts_from state [] = []
slot_counts_from state (Counted ∷ notes) =
    slot_stats_of state ∷ slot_counts_from (slot_after state Counted) notes
slot_counts_from state (note ∷ notes) = slot_counts_from (slot_after state note) notes

-- those, and what the statistics hold at the end
abbrev pub slot_stretches_from : SlotState → List Note → List Stats
slot_stretches_from state [] = slot_stats_of state ∷ []
slot_stretches_from state (Counted ∷ notes) =
    slot_stats_of state ∷ slot_stretches_from (slot_after state Counted) notes
slot_stretches_from state (note ∷ notes) = slot_stretches_from (slot_after state note) notes

-- the statistics that a run's Counted notes took, in order
abbrev pub slot_counts_of : List Note → List Stats
slot_counts_of notes = slot_counts_from first_slot_state notes

-- the statistics over a whole run
abbrev pub slot_totals_of : List Note → Stats
slot_totals_of notes = sum_of (slot_stretches_from first_slot_state notes)

-- statistics of a ring that doesn't freeze
abbrev pub without_freezes : Stats → Stats
without_freezes stats = record stats { freezes = 0 }
