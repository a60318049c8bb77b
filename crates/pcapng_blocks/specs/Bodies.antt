-- What a whole block says. Places within it are counted in bytes from its start.
use Rattle.std.specs.Prelude.{ℕ, ◌+◌, ◌-◌, ◌*◌, ◌≤◌, min, max, Bool, ◌&&◌, ◌==◌, nat_le}
use Rattle.std.specs.Prelude.{if◌then◌else◌, List, [], ◌∷◌, length, take, drop, slice_get, Option}
use Rattle.std.specs.Prelude.{None, Some, Result, Ok, Err, ⊤}
use Rattle.frame_view.specs.declared.frames.Frame.{Frame}
use Rattle.pcapng_blocks.specs.declared.byte_order.Order.{Order}
use Rattle.pcapng_blocks.specs.declared.error.BlockError.{BlockError}
use Rattle.pcapng_blocks.specs.declared.error.BlockError.TheVariants.{BadVersion, BadLink}
use Rattle.pcapng_blocks.specs.declared.error.BlockError.TheVariants.{BadLength, BadInterface}
use Rattle.pcapng_blocks.specs.declared.heads.Head.{Head}
use Rattle.pcapng_blocks.specs.declared.heads.Kind.{Kind}
use Rattle.pcapng_blocks.specs.declared.heads.Kind.TheVariants as kinds
use Rattle.pcapng_blocks.specs.declared.interfaces.Interface.{Interface}
use Rattle.pcapng_blocks.specs.declared.bodies.Captured.{Captured}
use Rattle.pcapng_blocks.specs.declared.bodies.Meaning.{Meaning}
use Rattle.pcapng_blocks.specs.declared.bodies.Meaning.TheVariants as meanings
use Rattle.pcapng_blocks.specs.Numbers.{number_at, padded}
use Rattle.pcapng_blocks.specs.Interfaces.{interface_of, nanoseconds, seconds, remainder}

-- this number of captured bytes is allowed, and the block has room for them beside its other fields
abbrev pub captured_fits : ℕ → ℕ → ℕ → Bool
captured_fits others captured total =
    nat_le captured 262144 && nat_le (others + padded captured) total

-- the time stamp of an enhanced packet, its upper half first
abbrev pub stamp_of : Order → List ℕ → ℕ
stamp_of order block = number_at order 4 12 block * 4294967296 + number_at order 4 16 block

-- a packet with its time and its captured and original lengths, whose bytes begin at a place
abbrev pub packet_of : ℕ → ℕ → ℕ → ℕ → Captured
packet_of nanos start captured original =
    record {
      sec = seconds nanos;
      nsec = remainder nanos;
      wire = max captured original;
      start = start;
      size = captured;
    }

abbrev pub packet_by : ℕ → Captured → ℕ → ℕ → Result Meaning BlockError
packet_by place packet others total =
    if captured_fits others packet.size total then Ok (meanings.Packet packet)
    else Err (BadLength place)

-- an enhanced packet of an interface
abbrev pub enhanced : ℕ → Option Interface → Order → List ℕ → Result Meaning BlockError
enhanced place None order block = Err (BadInterface place)
enhanced place (Some interface) order block =
    packet_by place
    (packet_of (nanoseconds interface.resolution (stamp_of order block)) 28
    (number_at order 4 20 block) (number_at order 4 24 block))
    32 (length block)

-- the captured bytes of a simple packet: its original ones, up to the snap length if that isn't 0
abbrev pub simple_size : ℕ → ℕ → ℕ
simple_size snaplen original = if snaplen == 0 then original else min original snaplen

-- a simple packet of the section's first interface; it has no time
abbrev pub simple : ℕ → Option Interface → Order → List ℕ → Result Meaning BlockError
simple place None order block = Err (BadInterface place)
simple place (Some interface) order block =
    packet_by place
    (packet_of 0 12 (simple_size interface.snaplen (number_at order 4 8 block))
    (number_at order 4 8 block)) 16 (length block)

-- the tests of a whole block's body
abbrev pub body_of : List Interface → ℕ → Kind → Order → List ℕ → Result Meaning BlockError
body_of interfaces place kinds.Section order block =
    if number_at order 2 12 block == 1 then Ok meanings.Section else Err BadVersion
body_of interfaces place kinds.Interface order block =
    if number_at order 2 8 block == 1 then Ok (meanings.Interface (interface_of order block))
    else Err (BadLink (number_at order 2 8 block))
body_of interfaces place kinds.Enhanced order block =
    enhanced place (slice_get interfaces (number_at order 4 8 block)) order block
body_of interfaces place kinds.Simple order block =
    simple place (slice_get interfaces 0) order block
body_of interfaces place kinds.Other order block = Ok meanings.Skipped

-- what a whole block at a place says, with the section's interfaces; its last four bytes repeat its
-- total length
unfoldable pub meaning_of : List Interface → ℕ → Head → List ℕ → Result Meaning BlockError
meaning_of interfaces place head block =
    if number_at head.order 4 (head.total - 4) block == head.total
    then body_of interfaces place head.kind head.order block
    else Err (BadLength place)

-- a packet's bytes are within its block, which has at least 16
abbrev pub IsWithin : Meaning → ℕ → Type 0
IsWithin meanings.Section size = ⊤
IsWithin (meanings.Interface interface) size = ⊤
IsWithin (meanings.Packet packet) size = (16 ≤ size) × (packet.start + packet.size ≤ size)
IsWithin meanings.Skipped size = ⊤

-- the frame of a packet
unfoldable pub frame_of : ℕ → ℕ → Captured → List ℕ → Frame
frame_of cpu index packet block = record {
  cpu = cpu;
  index = index;
  sec = packet.sec;
  nsec = packet.nsec;
  wire = packet.wire;
  bytes = take packet.size (drop packet.start block);
  tag = None;
}

-- the frames of a block: that of a packet, otherwise none
abbrev pub frames_in : ℕ → ℕ → Meaning → List ℕ → List Frame
frames_in cpu index meanings.Section block = []
frames_in cpu index (meanings.Interface interface) block = []
frames_in cpu index (meanings.Packet packet) block = frame_of cpu index packet block ∷ []
frames_in cpu index meanings.Skipped block = []
