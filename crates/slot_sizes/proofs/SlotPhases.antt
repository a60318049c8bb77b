-- What the pass over a schedule of slots reports.
use Rattle.std.proofs.Common.{◌≡◌, ◌↔◌, ℕ, ◌≤◌, List, refl}
use Rattle.ring_events.specs.declared.events.Happening.{Happening}
use Rattle.ring_model.specs.Ring.{Size}
use Rattle.ring_sizes.specs.EventLists.{events_of}
use Rattle.ring_sizes.specs.declared.paces.Arrival.{Arrival}
use Rattle.ring_sizes.specs.declared.paces.Timing.{Timing}
use Rattle.ring_sizes.specs.declared.paces.StallTime.{StallTime}
use Rattle.slot_sizes.specs.SlotHappenings.{IsNeverFull}
use Rattle.slot_sizes.specs.SlotPasses.{first_slot_pass}
use Rattle.slot_sizes.specs.SlotSchedules.{least_slots_of, slot_schedule_to}
use Rattle.slot_sizes.proofs.SlotNever.{all_grow, threshold_at}

pub least_some : (stalls : List StallTime) (pace : Timing) (arrivals : List Arrival) (end : ℕ)
    → 1 ≤ least_slots_of stalls pace arrivals end
least_some stalls pace arrivals end = all_grow (slot_schedule_to stalls pace arrivals end) first_slot_pass

pub never_at : (size : Size) (stalls : List StallTime) (pace : Timing) (arrivals : List Arrival) (end : ℕ)
    (happenings : List Happening)
    → events_of happenings ≡ slot_schedule_to stalls pace arrivals end → 1 ≤ size.blocks
    → IsNeverFull size happenings ↔ (least_slots_of stalls pace arrivals end ≤ size.blocks)
never_at size stalls pace arrivals end happenings same some = threshold_at size happenings _ _ same refl some
