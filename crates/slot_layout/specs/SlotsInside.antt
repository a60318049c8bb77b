-- A slot by its fields: it has its own bytes once they are written, and until then zeros that all
-- slots share.
use Rattle.std.specs.Prelude.{◌≡◌, length, replicate}
use Rattle.std.specs.Arc.{arc_value}
use Rattle.tp_layout.specs.BlockWrites.{ShapedBytes, bytes_or_zeros}
use Rattle.slot_layout.specs.declared.ring_slots.Slot.TheInside.{Inside}

-- the shape and the bytes
abbrev pub shaped_bytes : Inside → ShapedBytes
shaped_bytes slot = record {
  shape = slot.shape;
  bytes = bytes_or_zeros slot.shape.frame_size slot.bytes.written.items;
}

-- it has the bytes of a frame of its shape, and that number of zeros
pub record IsSlot (slot : Inside) : Type 0 where
  pub size :
      length (bytes_or_zeros slot.shape.frame_size slot.bytes.written.items) ≡ slot.shape.frame_size
  pub zeros : (arc_value slot.bytes.zeros).items ≡ replicate slot.shape.frame_size 0
