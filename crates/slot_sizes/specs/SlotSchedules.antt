-- The events of a ring of slots whose frames come at their moments, with a reader beside them:
-- those of a ring of blocks (ring_sizes) without its ticks.
use Rattle.std.specs.Prelude.{ℕ, ◌+◌, ◌<◌, ◌^◌, max, List, [], ◌∷◌, ◌++◌, length}
use Rattle.std.specs.List.{AllByRecursion, sum_by}
use Rattle.ring_sizes.specs.Schedules.{steps_from}
use Rattle.ring_sizes.specs.Shares.{AreEarly}
use Rattle.ring_sizes.specs.declared.events.Event.{Event}
use Rattle.ring_sizes.specs.declared.events.Event.TheVariants.{Packet}
use Rattle.ring_sizes.specs.declared.paces.Arrival.{Arrival}
use Rattle.ring_sizes.specs.declared.paces.Timing.{Timing}
use Rattle.ring_sizes.specs.declared.paces.StallTime.{StallTime}
use Rattle.slot_sizes.specs.SlotCourses.{all_slots_went_on, first_slot_course}
use Rattle.slot_sizes.specs.SlotPasses.{all_slots_passed, first_slot_pass}

-- the events by the end, if the frame before these came at a moment
abbrev pub slot_schedule_from : List StallTime → Timing → ℕ → ℕ → List Arrival → List Event
slot_schedule_from stalls pace end since [] = steps_from stalls pace since (end + 1)
slot_schedule_from stalls pace end since (arrival ∷ arrivals) =
    let at = max since arrival.at in
    steps_from stalls pace since at
    ++ Packet arrival.need ∷ slot_schedule_from stalls pace end at arrivals

-- the events of a ring with these frames in a run that ends at a moment; the timer of the pace has
-- no meaning
abbrev pub slot_schedule_to : List StallTime → Timing → List Arrival → ℕ → List Event
slot_schedule_to stalls pace arrivals end = slot_schedule_from stalls pace end 0 arrivals

-- the number of slots that a pass over the schedule reports
abbrev pub least_slots_of : List StallTime → Timing → List Arrival → ℕ → ℕ
least_slots_of stalls pace arrivals end =
    (all_slots_passed (slot_schedule_to stalls pace arrivals end) first_slot_pass).least

-- the packets that a course over the schedule drops
abbrev pub slot_drops_of : ℕ → List StallTime → Timing → List Arrival → ℕ → ℕ
slot_drops_of slots stalls pace arrivals end =
    (all_slots_went_on slots (slot_schedule_to stalls pace arrivals end) first_slot_course).dropped

-- the packets that the courses of some members drop together
abbrev pub slot_drops_of_all :
    ℕ → List StallTime → Timing → List (List Arrival) → ℕ → ℕ
slot_drops_of_all slots stalls pace members end =
    sum_by (λ arrivals. slot_drops_of slots stalls pace arrivals end) members

-- the frames of some rings are early enough, and few enough in all
pub record AreFewForSlots (members : List (List Arrival)) : Type 0 where
  pub early : AllByRecursion AreEarly members
  pub few : sum_by (λ arrivals. length arrivals) members < 2 ^ 64
