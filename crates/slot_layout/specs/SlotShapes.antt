-- The shape of a ring of TPACKET_V2, and its size as notes see it.
use Rattle.std.specs.Prelude.{◌≡◌, ◌≤◌, None, replicate}
use Rattle.ring_model.specs.Ring.{Size}
use Rattle.slot_layout.specs.SlotRings.{room_of_slots}
use Rattle.tp_layout.specs.Requests.{slot_fault}
use Rattle.tp_layout.specs.BlockWrites.{ShapedBytes}
use Rattle.tp_layout.specs.declared.requests.RingRequest.{RingRequest}

-- the shape came from `check_v2`
abbrev pub IsSlotShape : RingRequest → Type 0
IsSlotShape shape = slot_fault shape ≡ None

-- what follows from it: a ring has 2 to 65,536 slots of at most 1 MiB
pub record SlotBounds (shape : RingRequest) : Type 0 where
  pub some : 2 ≤ shape.frame_nr
  pub few : shape.frame_nr ≤ 65536
  pub small : shape.frame_size ≤ 1048576

-- the size of a ring of slots of this shape, as notes see it: a slot for each frame, and no
-- time-out
abbrev pub slot_size_of : RingRequest → Size
slot_size_of shape = record {
  room = room_of_slots shape.frame_size;
  blocks = shape.frame_nr;
  tov = 0;
}

-- a slot of zeros
abbrev pub zero_slot : RingRequest → ShapedBytes
zero_slot shape = record { shape = shape; bytes = replicate shape.frame_size 0 }
