-- A ring of slots after what happens to it and its reader. It has no timer.
use Rattle.std.specs.Prelude.{◌+◌, List, [], ◌∷◌, length, nat_lt, if◌then◌else◌}
use Rattle.ring_events.specs.Happenings.{IsNeverHeld}
use Rattle.ring_events.specs.declared.events.Happening.{Happening}
use Rattle.ring_events.specs.declared.events.Happening.TheVariants.{Put, Try, Tick, Read, ReadAll}
use Rattle.ring_events.specs.declared.events.Happening.TheVariants.{Count}
use Rattle.ring_model.specs.Ring.{Size}
use Rattle.ring_model.specs.Rings.{Ring, fresh, noted}
use Rattle.ring_model.specs.declared.notes.Note.TheVariants.{Counted}
use Rattle.slot_layout.specs.SlotRings.{slot_note_of_put, slot_note_of_try, slot_state}

-- the ring after one thing more
abbrev pub slot_happened : Happening → Ring → Ring
slot_happened (Put offer) ring = noted ring (slot_note_of_put ring offer)
slot_happened (Try offer) ring = noted ring (slot_note_of_try ring offer)
slot_happened (Tick ms) ring = ring
slot_happened Read ring =
    if nat_lt ring.released (length (slot_state ring).done)
    then record ring { released = ring.released + 1 } else ring
slot_happened ReadAll ring = record ring { released = length (slot_state ring).done }
slot_happened Count ring = noted ring Counted

-- the ring after all of them, in order
abbrev pub all_slots_happened : List Happening → Ring → Ring
all_slots_happened [] ring = ring
all_slots_happened (happening ∷ happenings) ring =
    all_slots_happened happenings (slot_happened happening ring)

-- a new ring of this size never finds a slot still the reader's
abbrev pub IsNeverFull : Size → List Happening → Type 0
IsNeverFull size happenings = IsNeverHeld (all_slots_happened happenings (fresh size)).notes
