-- What a bridge sends of the packets that it receives, and what it skips. Lengths are in bytes.
use Rattle.std.specs.Prelude.{ℕ, Bool, ◌&&◌, nat_le, not, List, count_by, filter, length, map}
use Rattle.frame_view.specs.PlainPacket.{plain_of}
use Rattle.frame_view.specs.Vlan.{frame_of}
use Rattle.frame_view.specs.declared.frames.Packet.{Packet}

-- whether the frame of a packet, with its tag put back, has from 14 bytes to as many as fit after
-- the header of a slot
abbrev pub is_sendable : ℕ → Packet → Bool
is_sendable room packet =
    nat_le 14 (length (frame_of packet)) && nat_le (length (frame_of packet)) room

-- what is sent of a packet: its frame, as a packet on its own
abbrev pub as_sent : Packet → Packet
as_sent packet = plain_of (frame_of packet)

-- the packets that are sent of some packets, in order
unfoldable pub sent_of : ℕ → List Packet → List Packet
sent_of room packets = map as_sent (filter (is_sendable room) packets)

-- the number of the others
unfoldable pub skipped_of : ℕ → List Packet → ℕ
skipped_of room packets = count_by (λ packet. not (is_sendable room packet)) packets
