-- What the notes of a ring say about packets, and the statistics from them.
use Rattle.std.specs.Prelude.{ℕ, ◌+◌, List, [], ◌∷◌, ◌++◌, sum_by, ◌==◌, if◌then◌else◌}
use Rattle.ring_model.specs.Ring.{Size, State, after, first_state}
use Rattle.ring_model.specs.declared.notes.Offer.{Offer}
use Rattle.ring_model.specs.declared.notes.Note.{Note}
use Rattle.ring_model.specs.declared.notes.Note.TheVariants.{Kept, Refused, Dropped, Ticked}
use Rattle.ring_model.specs.declared.notes.Note.TheVariants.{Counted, Finished}
use Rattle.ring_model.specs.declared.notes.Stats.{Stats}

-- the offers that were kept, in order
abbrev pub kept_of : List Note → List Offer
kept_of [] = []
kept_of (Kept offer found ∷ notes) = offer ∷ kept_of notes
kept_of (note ∷ notes) = kept_of notes

-- the CPU and the index of each frame that was dropped, in order
abbrev pub drops_of : List Note → List (ℕ × ℕ)
drops_of [] = []
drops_of (Dropped cpu index need number ∷ notes) = (cpu, index) ∷ drops_of notes
drops_of (note ∷ notes) = drops_of notes

-- a list of the note if it is about a frame of this CPU, otherwise an empty one
abbrev pub frame_note : ℕ → Note → List Note
frame_note cpu (Kept offer found) = if offer.frame.cpu == cpu then Kept offer found ∷ [] else []
frame_note cpu (Refused of index need number) =
    if of == cpu then Refused of index need number ∷ [] else []
frame_note cpu (Dropped of index need number) =
    if of == cpu then Dropped of index need number ∷ [] else []
frame_note cpu (Ticked ms found) = []
frame_note cpu Counted = []
frame_note cpu Finished = []

-- the notes about frames of a CPU, in order
abbrev pub frame_notes : ℕ → List Note → List Note
frame_notes cpu [] = []
frame_notes cpu (note ∷ notes) = frame_note cpu note ++ frame_notes cpu notes

-- the statistics of a state: packets are those kept and those dropped
abbrev pub stats_of : State → Stats
stats_of state =
    record { packets = state.kept + state.dropped; drops = state.dropped; freezes = state.freezes }

-- the statistics that each Counted note took
abbrev pub counts_from : Size → State → List Note → List Stats
counts_from size state [] = []
counts_from size state (Counted ∷ notes) =
    stats_of state ∷ counts_from size (after size state Counted) notes
counts_from size state (note ∷ notes) = counts_from size (after size state note) notes

-- those, and what the statistics hold at the end
abbrev pub stretches_from : Size → State → List Note → List Stats
stretches_from size state [] = stats_of state ∷ []
stretches_from size state (Counted ∷ notes) =
    stats_of state ∷ stretches_from size (after size state Counted) notes
stretches_from size state (note ∷ notes) = stretches_from size (after size state note) notes

-- the sums of statistics
abbrev pub sum_of : List Stats → Stats
sum_of all = record {
  packets = sum_by (λ stats. stats.packets) all;
  drops = sum_by (λ stats. stats.drops) all;
  freezes = sum_by (λ stats. stats.freezes) all;
}

-- the statistics that a run's Counted notes took, in order
abbrev pub counts_of : Size → List Note → List Stats
counts_of size notes = counts_from size (first_state size) notes

-- the statistics over a whole run
abbrev pub totals_of : Size → List Note → Stats
totals_of size notes = sum_of (stretches_from size (first_state size) notes)
