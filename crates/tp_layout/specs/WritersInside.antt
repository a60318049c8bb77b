-- A block that is being filled, by its fields: it has its first bytes, and zeros after them.
use Rattle.std.specs.Prelude.{◌≡◌, ◌<◌, ◌≤◌, length, replicate}
use Rattle.std.specs.Arc.{arc_value}
use Rattle.std.specs.Vec.{vec_capacity}
use Rattle.tp_layout.specs.Requests.{IsShape}
use Rattle.tp_layout.specs.BlockWrites.{ShapedBytes, padded}
use Rattle.tp_layout.specs.declared.ring_blocks.block_writers.BlockWriter.TheInside.{Inside}

-- the shape and the bytes
abbrev pub grown_bytes : Inside → ShapedBytes
grown_bytes writer = record {
  shape = writer.shape;
  bytes = padded writer.shape.block_size writer.bytes.written.items;
}

-- it has no more bytes than its shape gives, memory for those that it lacks, and zeros to share
-- with other blocks
pub record IsWriter (writer : Inside) : Type 0 where
  pub sound : IsShape writer.shape
  pub fits : length writer.bytes.written.items ≤ writer.shape.block_size
  pub room :
      length writer.bytes.written.items < writer.shape.block_size
      → writer.shape.block_size ≤ vec_capacity writer.bytes.written
  pub zeros : (arc_value writer.bytes.zeros).items ≡ replicate writer.shape.block_size 0
