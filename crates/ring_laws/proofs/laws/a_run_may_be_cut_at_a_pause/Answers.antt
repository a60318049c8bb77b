use Rattle.std.proofs.Common.{◌≤◌, subst, ◌+◌}
use Rattle.ring_events.specs.Happenings.{all_happened}
use Rattle.ring_laws.specs.Beginnings.{IsLike, is_lossless, start}
use Rattle.ring_laws.specs.Runs.{pause}
use Rattle.ring_laws.proofs.Bounds.{bounds}
use Rattle.ring_laws.proofs.Noted.{all_size}
use Rattle.ring_laws.proofs.SureCuts.{cuts}
use Rattle.ring_laws.proofs.laws.a_run_may_be_cut_at_a_pause.Goals as goal
use Rattle.ring_model.specs.Ring.{Size}
use Rattle.ring_model.specs.Rings.{fresh, state}
use Rattle.ring_model.specs.Sizes.{need_of}

pub returns : goal.returns
returns c size happenings times ms offer course fits all later =
    let ring = all_happened happenings (fresh size) in
    let same = all_size happenings (fresh size) in
    subst (λ (z : Size). need_of offer.snap ≤ z.room → z.blocks ≤ times → 2 ≤ z.blocks → (state ring).clock + z.tov ≤ ms
    → IsLike (all_happened (pause times ms) ring) (start z offer (is_lossless ring))) same
    (λ fits all many later. cuts times ms offer ring fits many all
    (bounds size happenings course) later) fits all course.blocks later
