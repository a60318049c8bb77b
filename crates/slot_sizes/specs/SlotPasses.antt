-- One pass over the events of a ring that always has a slot more.
use Rattle.std.specs.Prelude.{ℕ, ◌+◌, ◌-◌, max, Bool, nat_lt, if◌then◌else◌, List, [], ◌∷◌}
use Rattle.ring_sizes.specs.Rests.{released_by}
use Rattle.ring_sizes.specs.declared.events.Event.{Event}
use Rattle.ring_sizes.specs.declared.events.Event.TheVariants.{Packet, Tick, Read, ReadAll}
use Rattle.slot_sizes.specs.declared.slot_passes.SlotPass.{SlotPass}

abbrev pub first_slot_pass : SlotPass
first_slot_pass = record { done = 0; released = 0; least = 1 }

-- one slot more is filled
abbrev pub with_slot : SlotPass → SlotPass
with_slot pass = record pass {
  done = pass.done + 1;
  least = max pass.least (pass.done + 1 - pass.released);
}

abbrev pub slot_passed : Event → SlotPass → SlotPass
slot_passed (Packet need) pass = with_slot pass
slot_passed (Tick ms) pass = pass
slot_passed Read pass =
    if nat_lt pass.released pass.done then record pass { released = pass.released + 1 } else pass
slot_passed ReadAll pass = record pass { released = pass.done }

abbrev pub all_slots_passed : List Event → SlotPass → SlotPass
all_slots_passed [] pass = pass
all_slots_passed (event ∷ events) pass = all_slots_passed events (slot_passed event pass)

-- after steps of the reader, each of which reads all that is there, or one slot
abbrev pub slots_read : Bool → ℕ → SlotPass → SlotPass
slots_read takes_all steps pass =
    record pass { released = released_by takes_all steps pass.released pass.done }
