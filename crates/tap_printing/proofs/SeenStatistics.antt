-- The statistics of a ring, from those that a ring of blocks with the same notes has.
use Rattle.std.proofs.Common.{◌≡◌, ℕ, List, refl, sym, ap, ◌∙◌}
use Rattle.std.specs.List.{flat_map}
use Rattle.std.proofs.lemmas.List.Folds.{flat_map-map}
use Rattle.ring_model.specs.Fates.{counts_of, stretches_from, sum_of, totals_of}
use Rattle.ring_model.specs.Ring.{Size, first_state}
use Rattle.ring_model.specs.declared.notes.Note.{Note}
use Rattle.ring_model.specs.declared.notes.Stats.{Stats}
use Rattle.slot_layout.specs.SlotFates.{without_freezes}
use Rattle.slot_layout.specs.SlotSteps.{first_slot_state}
use Rattle.slot_layout.proofs.Counts.{counts_alike, stretches_alike, sums_alike}
use Rattle.tap_printing.specs.Statistics.{counts_by, seen_by, totals_by}
use Rattle.run_reports.specs.declared.ring_kind.RingKind.{RingKind}
use Rattle.run_reports.specs.declared.ring_kind.RingKind.TheVariants.{Blocks, Slots}

pub totals_seen : (kind : RingKind) (size : Size) (notes : List Note)
    → seen_by kind (totals_of size notes) ≡ totals_by kind size notes
unfolding totals_by
totals_seen Blocks size notes = refl
totals_seen Slots size notes =
    sym (ap sum_of (stretches_alike size notes first_slot_state (first_state size)
    (record { kept = refl; dropped = refl }))
    ∙ sums_alike (stretches_from size (first_state size) notes))

-- and the same for each of those that were taken
pub counts_seen : (kind : RingKind) (size : Size) (notes : List Note) (line : Stats → List ℕ)
    → flat_map (λ stats. line (seen_by kind stats)) (counts_of size notes)
    ≡ flat_map line (counts_by kind size notes)
unfolding counts_by
counts_seen Blocks size notes line = refl
counts_seen Slots size notes line =
    sym (ap (flat_map line) (counts_alike size notes first_slot_state (first_state size)
    (record { kept = refl; dropped = refl }))
    ∙ flat_map-map line without_freezes (counts_of size notes))
