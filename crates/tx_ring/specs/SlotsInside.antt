-- The slots of a ring by their fields: those that were written are in its bytes, and those after
-- them have none yet.
use Rattle.std.specs.Prelude.{◌≡◌, ℕ, zero, suc, ◌-◌, ◌*◌, ◌^◌, ◌<◌, ◌≤◌, List, [], ◌∷◌, ◌++◌}
use Rattle.std.specs.Prelude.{length, take, drop, replicate}
use Rattle.std.specs.Vec.{vec_capacity}
use Rattle.tx_ring.specs.Slots.{IsSlot, SlotState, empty_slot, slot_in}
use Rattle.tx_ring.specs.declared.slots.Slots.TheInside.{Inside}

-- n slots of this size, in their bytes
abbrev pub slots_in : ℕ → ℕ → List ℕ → List SlotState
slots_in size zero bytes = []
slots_in size (suc count) bytes = slot_in (take size bytes) ∷ slots_in size count (drop size bytes)

-- the bytes are those of n slots of this size
abbrev pub AreSlots : ℕ → ℕ → List ℕ → Type 0
AreSlots size zero bytes = bytes ≡ []
AreSlots size (suc count) bytes = IsSlot (take size bytes) × AreSlots size count (drop size bytes)

-- `count` slots of this size: those that were written, and after them those that nothing was
-- written into
abbrev pub slots_by : ℕ → ℕ → ℕ → List ℕ → List SlotState
slots_by size count written bytes =
    slots_in size written bytes ++ replicate (count - written) (empty_slot size)

-- the slots
abbrev pub all_slots : Inside → List SlotState
all_slots slots =
    slots_by slots.shape.frame_size slots.shape.frame_nr slots.written slots.bytes.items

-- `count` slots of this size, the first `written` of which were written: these bytes are theirs,
-- and there is memory for all
pub record IsKept (size count written room : ℕ) (bytes : List ℕ) : Type 0 where
  pub least : 48 ≤ size
  pub small : count * size < 2 ^ 64
  pub few : written ≤ count
  pub whole : length bytes ≡ written * size
  pub room_is : count * size ≤ room
  pub each : AreSlots size written bytes

-- the slots are kept so
abbrev pub AreKept : Inside → Type 0
AreKept slots =
    IsKept slots.shape.frame_size slots.shape.frame_nr slots.written (vec_capacity slots.bytes)
    slots.bytes.items
