use Rattle.run_reports.proofs.PlacesLeft.{none_dropped}
use Rattle.run_reports.proofs.laws.a_member_with_places_left_dropped_nothing.Goals as goal

pub returns : goal.returns
returns c = λ kind job bytes ends report is k d within few.
    none_dropped c.a_ring_with_blocks_left_drops_nothing.ensures c.a_ring_with_slots_left_drops_nothing.ensures kind
    job.setup.shape job.setup.dump _ (is.members k d within) few
