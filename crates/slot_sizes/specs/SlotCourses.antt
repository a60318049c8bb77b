-- One pass over the events of a ring with a given number of slots.
use Rattle.std.specs.Prelude.{ℕ, ◌+◌, ◌-◌, Bool, nat_lt, if◌then◌else◌, List, [], ◌∷◌}
use Rattle.ring_model.specs.declared.notes.Stats.{Stats}
use Rattle.ring_sizes.specs.Rests.{released_by}
use Rattle.ring_sizes.specs.declared.events.Event.{Event}
use Rattle.ring_sizes.specs.declared.events.Event.TheVariants.{Packet, Tick, Read, ReadAll}
use Rattle.slot_sizes.specs.declared.slot_courses.SlotCourse.{SlotCourse}

abbrev pub first_slot_course : SlotCourse
first_slot_course = record { done = 0; released = 0; dropped = 0 }

-- a ring of slots never freezes
abbrev pub slot_course_stats : SlotCourse → Stats
slot_course_stats course = record {
  packets = course.done + course.dropped;
  drops = course.dropped;
  freezes = 0;
}

-- a packet is dropped where the slot whose place it would take isn't released
abbrev pub slot_fed : ℕ → SlotCourse → SlotCourse
slot_fed slots course =
    if nat_lt course.released (course.done + 1 - slots)
    then record course { dropped = course.dropped + 1 }
    else record course { done = course.done + 1 }

abbrev pub slot_went_on : ℕ → Event → SlotCourse → SlotCourse
slot_went_on slots (Packet need) course = slot_fed slots course
slot_went_on slots (Tick ms) course = course
slot_went_on slots Read course =
    if nat_lt course.released course.done
    then record course { released = course.released + 1 } else course
slot_went_on slots ReadAll course = record course { released = course.done }

abbrev pub all_slots_went_on : ℕ → List Event → SlotCourse → SlotCourse
all_slots_went_on slots [] course = course
all_slots_went_on slots (event ∷ events) course =
    all_slots_went_on slots events (slot_went_on slots event course)

-- after steps of the reader, each of which reads all that is there, or one slot
abbrev pub slot_course_read : Bool → ℕ → SlotCourse → SlotCourse
slot_course_read takes_all steps course =
    record course { released = released_by takes_all steps course.released course.done }
