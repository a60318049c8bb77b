-- The output file of a list of packets: pcap 2.4, little-endian, in nanoseconds.
use Rattle.std.specs.Prelude.{ℕ, ◌+◌, min, List, ◌++◌, length, Option, None, Some}
use Rattle.std.specs.List.{flat_map}
use Rattle.byteorder.specs.Endian.{little_bytes}
use Rattle.frame_view.specs.Vlan.{frame_of}
use Rattle.frame_view.specs.declared.frames.Packet.{Packet}
use Rattle.frame_view.specs.declared.frames.Tag.{Tag}

-- the four bytes of a number, the lowest first
unfoldable pub four_bytes : ℕ → List ℕ
four_bytes number = little_bytes 4 number

-- magic, version 2.4, time zone 0, accuracy 0, snap length 262,144, link type Ethernet
unfoldable pub output_header : List ℕ
output_header =
    four_bytes 0xa1b23c4d
    ++ (little_bytes 2 2
    ++ (little_bytes 2 4
    ++ (four_bytes 0 ++ (four_bytes 0 ++ (four_bytes 262144 ++ four_bytes 1)))))

-- a tag has four bytes on the wire
abbrev pub tag_size : Option Tag → ℕ
tag_size None = 0
tag_size (Some tag) = 4

-- the length on the wire with the tag, capped by the field
abbrev pub original : Packet → ℕ
original packet = min (packet.wire + tag_size packet.tag) 4294967295

-- the record of a packet: its time, the number of bytes of its frame, the length on the wire, its
-- frame
unfoldable pub record_text : Packet → List ℕ
record_text packet =
    four_bytes packet.sec
    ++ (four_bytes packet.nsec
    ++ (four_bytes (length (frame_of packet)) ++ (four_bytes (original packet) ++ frame_of packet)))

-- the whole output file
unfoldable pub output_of : List Packet → List ℕ
output_of packets = output_header ++ flat_map record_text packets
