use Rattle.std.proofs.Common.{ap, arith}
use Rattle.ring_events.specs.Happenings.{all_happened}
use Rattle.ring_laws.proofs.Beginnings.{begins, begins_frozen}
use Rattle.ring_laws.proofs.Bounds.{bounds}
use Rattle.ring_laws.proofs.Noted.{all_size}
use Rattle.ring_laws.proofs.laws.a_new_ring_is_brought_to_the_state_of_any_ring.Goals as goal
use Rattle.ring_model.specs.Ring.{Size}
use Rattle.ring_model.specs.Rings.{fresh}

pub returns-clause-open_ring : goal.returns-clause-open_ring
returns-clause-open_ring c size happenings offer offers course fits now =
    let same = all_size happenings (fresh size) in
    let room = ap (λ (z : Size). z.room) same in
    let blocks = ap (λ (z : Size). z.blocks) same in
    begins (all_happened happenings (fresh size)) offer offers (omega (arith, fits, room))
    (omega (arith, course.blocks, blocks))
    (bounds size happenings course) now

pub returns-clause-frozen_ring : goal.returns-clause-frozen_ring
returns-clause-frozen_ring c size happenings offer course fits now =
    let same = all_size happenings (fresh size) in
    let room = ap (λ (z : Size). z.room) same in
    let blocks = ap (λ (z : Size). z.blocks) same in
    begins_frozen (all_happened happenings (fresh size)) offer (omega (arith, fits, room))
    (omega (arith, course.blocks, blocks))
    (bounds size happenings course) now
