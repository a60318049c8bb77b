-- A block by its fields: it has its own bytes once they are written, and until then zeros that all
-- blocks share.
use Rattle.std.specs.Prelude.{◌≡◌, ◌≤◌, [], length, replicate}
use Rattle.std.specs.Arc.{arc_value}
use Rattle.std.specs.Vec.{vec_capacity}
use Rattle.tp_layout.specs.Requests.{IsShape}
use Rattle.tp_layout.specs.BlockWrites.{ShapedBytes, bytes_or_zeros}
use Rattle.tp_layout.specs.declared.ring_blocks.Block.TheInside.{Inside}

-- the shape and the bytes
abbrev pub shaped_bytes : Inside → ShapedBytes
shaped_bytes block = record {
  shape = block.shape;
  bytes = bytes_or_zeros block.shape.block_size block.bytes.written.items;
}

-- it has the bytes that its shape gives, or memory for them and that number of zeros
pub record IsBlock (block : Inside) : Type 0 where
  pub sound : IsShape block.shape
  pub size :
      length (bytes_or_zeros block.shape.block_size block.bytes.written.items)
      ≡ block.shape.block_size
  pub room :
      block.bytes.written.items ≡ [] → block.shape.block_size ≤ vec_capacity block.bytes.written
  pub zeros : (arc_value block.bytes.zeros).items ≡ replicate block.shape.block_size 0
