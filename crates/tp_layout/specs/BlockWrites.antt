-- How a block is filled: in an open block each packet says where the next one will be, and at the
-- end the block is closed.
use Rattle.std.specs.Prelude.{◌≡◌, ℕ, ◌+◌, ◌-◌, ◌^◌, ◌<◌, ◌≤◌, IfSome, IsTrue, List, [], ◌∷◌, ◌++◌}
use Rattle.std.specs.Prelude.{length, take, drop, replicate}
use Rattle.std.specs.List.{AllByRecursion, flat_map}
use Rattle.byteorder.specs.Endian.{little_bytes}
use Rattle.frame_view.specs.Vlan.{is_tpid}
use Rattle.frame_view.specs.declared.frames.Packet.{Packet}
use Rattle.ring_model.specs.declared.notes.Offer.{Offer}
use Rattle.tp_layout.specs.declared.requests.RingRequest.{RingRequest}
use Rattle.tp_layout.specs.declared.block_writes.Closing.{Closing}
use Rattle.tp_layout.specs.Requests.{first_of}
use Rattle.tp_layout.specs.Packets.{packet_text, need_of_packet, IsLawfulPacket}
use Rattle.tp_layout.specs.Blocks.{Descriptor, descriptor_text, needs_of, first_time, last_time}

-- a block: its shape and its bytes
pub record ShapedBytes : Type 0 where
  pub shape : RingRequest
  pub bytes : List ℕ

-- the bytes of a block of this size: zeros until bytes were written
abbrev pub bytes_or_zeros : ℕ → List ℕ → List ℕ
bytes_or_zeros size [] = replicate size 0
bytes_or_zeros size (byte ∷ bytes) = byte ∷ bytes

-- bytes with zeros after them, up to this size
abbrev pub padded : ℕ → List ℕ → List ℕ
padded size bytes = bytes ++ replicate (size - length bytes) 0

-- the bytes with others written over them from a place on
abbrev pub put : ℕ → List ℕ → List ℕ → List ℕ
put at text bytes = take at bytes ++ (text ++ drop (at + length text) bytes)

-- an offer whose packet may be written: at least one of its bytes is kept, no more than were
-- captured or were on the wire, and the rest of it is sound
pub record IsWritable (offer : Offer) : Type 0 where
  pub some : 0 < offer.snap
  pub captured : offer.snap ≤ length offer.frame.bytes
  pub wire : offer.snap ≤ offer.frame.wire
  pub no_runt : 14 ≤ length offer.frame.bytes
  pub nsec : offer.frame.nsec ≤ 999999999
  pub pkttype : offer.pkttype ≤ 3
  pub tag : IfSome offer.frame.tag (λ tag. IsTrue (is_tpid tag.tpid))

-- the numbers of a packet fit the types of its fields
pub record HasNumbers (packet : Packet) : Type 0 where
  pub sec : packet.sec < 2 ^ 32
  pub wire : packet.wire < 2 ^ 32
  pub rxhash : packet.rxhash < 2 ^ 32
  pub tci : IfSome packet.tag (λ tag. tag.tci < 2 ^ 16)

-- the descriptor of a block that has no packet yet
abbrev pub empty_descriptor : RingRequest → ℕ → Descriptor
empty_descriptor shape number = record {
  number = number;
  status = 0;
  count = 0;
  end = first_of shape;
  first_sec = 0;
  first_nsec = 0;
  last_sec = 0;
  last_nsec = 0;
}

-- what an open block begins with
unfoldable pub open_header : RingRequest → ℕ → List ℕ
open_header shape number = descriptor_text shape (empty_descriptor shape number)

-- the packets of an open block: each says where the next one will be
unfoldable pub open_packets : List Packet → List ℕ
open_packets packets = flat_map (λ packet. packet_text (need_of_packet packet) packet) packets

-- an open block of this shape and number with these packets
unfoldable pub open_text : RingRequest → ℕ → List Packet → List ℕ
open_text shape number packets = open_header shape number ++ open_packets packets

-- an open block of this shape and number holds these packets, which are lawful
pub record IsOpen (shape : RingRequest) (number : ℕ) (packets : List Packet) (bytes : List ℕ)
    : Type 0 where
  pub small : number < 2 ^ 64
  pub each : AllByRecursion IsLawfulPacket packets
  pub begins : take (length (open_text shape number packets)) bytes ≡ open_text shape number packets

-- the place of the next packet of an open block
abbrev pub end_of : RingRequest → List Packet → ℕ
end_of shape packets = first_of shape + needs_of packets

-- the place of the last packet, where the first one is at `at`
abbrev pub last_place : ℕ → List Packet → ℕ
last_place at [] = at
last_place at (packet ∷ []) = at
last_place at (packet ∷ next ∷ packets) = last_place (at + need_of_packet packet) (next ∷ packets)

-- what the close of a block with these packets writes
abbrev pub closing_of : RingRequest → ℕ → List Packet → Closing
closing_of shape status packets = record {
  status = status;
  packets = length packets;
  length = end_of shape packets;
  last_at = last_place (first_of shape) packets;
  first_sec = (first_time packets).0;
  first_nsec = (first_time packets).1;
  last_sec = (last_time packets).0;
  last_nsec = (last_time packets).1;
}

-- the times of a descriptor
unfoldable pub closing_times : Closing → List ℕ
closing_times closing =
    little_bytes 4 closing.first_sec ++ (little_bytes 4 closing.first_nsec
    ++ (little_bytes 4 closing.last_sec ++ little_bytes 4 closing.last_nsec))

-- the bytes with the fields of the descriptor closed, and no offset to a next packet at the last
-- one
unfoldable pub closed : Closing → List ℕ → List ℕ
closed closing bytes =
    put closing.last_at (little_bytes 4 0)
    (put 32 (closing_times closing)
    (put 20 (little_bytes 4 closing.length)
    (put 8 (little_bytes 4 closing.status ++ little_bytes 4 closing.packets) bytes)))

-- a block of zeros
abbrev pub zero_block : RingRequest → ShapedBytes
zero_block shape = record { shape = shape; bytes = replicate shape.block_size 0 }
