-- The bytes of a capture split from the start into blocks.
use Rattle.std.specs.Prelude.{ℕ, zero, suc, ◌+◌, ◌≤◌, ⊤, nat_lt, if◌then◌else◌, List, [], ◌∷◌, ◌++◌}
use Rattle.std.specs.Prelude.{length, take, drop, Option, None, Some, Result, Ok, Err}
use Rattle.frame_view.specs.declared.frames.Frame.{Frame}
use Rattle.pcapng_blocks.specs.declared.byte_order.Order.{Order}
use Rattle.pcapng_blocks.specs.declared.error.BlockError.{BlockError}
use Rattle.pcapng_blocks.specs.declared.heads.Head.{Head}
use Rattle.pcapng_blocks.specs.declared.heads.Look.{Look}
use Rattle.pcapng_blocks.specs.declared.heads.Look.TheVariants as looks
use Rattle.pcapng_blocks.specs.declared.interfaces.Interface.{Interface}
use Rattle.pcapng_blocks.specs.declared.bodies.Meaning.{Meaning}
use Rattle.pcapng_blocks.specs.declared.bodies.Meaning.TheVariants as meanings
use Rattle.pcapng_blocks.specs.declared.fronts.Front.{Front}
use Rattle.pcapng_blocks.specs.declared.fronts.Front.TheVariants.{Part, Fault, Block}
use Rattle.pcapng_blocks.specs.Heads.{look_at}
use Rattle.pcapng_blocks.specs.Bodies.{meaning_of, frames_in, IsWithin}

-- A place between blocks: the number of bytes and of packets before it, the section's byte order
-- and its interfaces
pub record Spot : Type 0 where
  pub stop : ℕ
  pub index : ℕ
  pub order : Order
  pub interfaces : List Interface

abbrev pub front_told : Head → Result Meaning BlockError → Front
front_told head (Ok meaning) = Block head meaning
front_told head (Err error) = Fault error

-- what bytes begin with, given this head
abbrev pub front_behind : List Interface → ℕ → Head → List ℕ → Front
front_behind interfaces place head bytes =
    if nat_lt (length bytes) head.total then Part
    else front_told head (meaning_of interfaces place head (take head.total bytes))

abbrev pub front_by : Look → List Interface → ℕ → List ℕ → Front
front_by looks.Short interfaces place bytes = Part
front_by (looks.Bad error) interfaces place bytes = Fault error
front_by (looks.Headed head) interfaces place bytes = front_behind interfaces place head bytes

-- what the bytes from a place on begin with: a block that passes its tests, a fault, or a part of a
-- block
unfoldable pub front_of : Order → List Interface → ℕ → List ℕ → Front
front_of order interfaces place bytes = front_by (look_at order place bytes) interfaces place bytes

-- the place after a block; a section header clears the interfaces, an interface block adds one
abbrev pub spot_after : Spot → Head → Meaning → Spot
spot_after spot head meanings.Section =
    record {
      stop = spot.stop + head.total;
      index = spot.index;
      order = head.order;
      interfaces = [];
    }
spot_after spot head (meanings.Interface interface) =
    record {
      stop = spot.stop + head.total;
      index = spot.index;
      order = spot.order;
      interfaces = spot.interfaces ++ interface ∷ [];
    }
spot_after spot head (meanings.Packet packet) =
    record {
      stop = spot.stop + head.total;
      index = spot.index + 1;
      order = spot.order;
      interfaces = spot.interfaces;
    }
spot_after spot head meanings.Skipped =
    record {
      stop = spot.stop + head.total;
      index = spot.index;
      order = spot.order;
      interfaces = spot.interfaces;
    }

-- Where the split stops: the place, the frames so far, the test that failed, if one did, and the
-- bytes from the place on
pub record Reached : Type 0 where
  pub spot : Spot
  pub frames : List Frame
  pub fault : Option BlockError
  pub left : List ℕ

abbrev pub split_on : Front → Spot → List Frame → List ℕ → (Head → Meaning → Reached) → Reached
split_on Part spot frames bytes next = record {
  spot = spot;
  frames = frames;
  fault = None;
  left = bytes;
}
split_on (Fault error) spot frames bytes next = record {
  spot = spot;
  frames = frames;
  fault = Some error;
  left = bytes;
}
split_on (Block head meaning) spot frames bytes next = next head meaning

-- at most n blocks
unfoldable pub split_within : ℕ → ℕ → Spot → List Frame → List ℕ → Reached
split_within zero cpu spot frames bytes = record {
  spot = spot;
  frames = frames;
  fault = None;
  left = bytes;
}
split_within (suc most) cpu spot frames bytes =
    split_on (front_of spot.order spot.interfaces spot.stop bytes) spot frames bytes
    (λ head meaning.
    split_within most cpu (spot_after spot head meaning)
    (frames ++ frames_in cpu spot.index meaning (take head.total bytes)) (drop head.total bytes))

-- the bytes split from the start into blocks, with frames so far
unfoldable pub split_from : ℕ → Spot → List Frame → List ℕ → Reached
split_from cpu spot frames bytes = split_within (length bytes) cpu spot frames bytes

-- a whole block of at least 12 bytes, with what it says within it
pub record IsBlock (head : Head) (meaning : Meaning) (size : ℕ) : Type 0 where
  pub some : 12 ≤ head.total
  pub here : head.total ≤ size
  pub within : IsWithin meaning head.total

abbrev pub HasBlock : Front → ℕ → Type 0
HasBlock Part size = ⊤
HasBlock (Fault error) size = ⊤
HasBlock (Block head meaning) size = IsBlock head meaning size
