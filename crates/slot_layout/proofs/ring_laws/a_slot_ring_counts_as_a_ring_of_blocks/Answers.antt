use Rattle.std.proofs.Common.{refl, ap, ◌∙◌}
use Rattle.ring_model.specs.Fates.{stretches_from, sum_of}
use Rattle.ring_model.specs.Ring.{first_state}
use Rattle.slot_layout.specs.SlotSteps.{first_slot_state}
use Rattle.slot_layout.proofs.Counts.{counts_alike, stretches_alike, sums_alike}
use Rattle.slot_layout.proofs.ring_laws.a_slot_ring_counts_as_a_ring_of_blocks.Goals as goal

pub returns-clause-counts : goal.returns-clause-counts
returns-clause-counts c size notes =
    counts_alike size notes first_slot_state (first_state size) (record { kept = refl; dropped = refl })

pub returns-clause-totals : goal.returns-clause-totals
returns-clause-totals c size notes =
    ap sum_of (stretches_alike size notes first_slot_state (first_state size) (record { kept = refl; dropped = refl }))
    ∙ sums_alike (stretches_from size (first_state size) notes)
