-- The text of a filled slot: `struct tpacket2_hdr`, `struct sockaddr_ll`, a gap, the data. Sizes
-- and places are in bytes.
use Rattle.std.specs.Prelude.{◌≡◌, ℕ, ◌+◌, ◌≤◌, Bool, ◌||◌, ◌==◌, IsTrue, if◌then◌else◌, List, []}
use Rattle.std.specs.Prelude.{◌∷◌, ◌++◌, length, take, drop, Option, None, Some}
use Rattle.frame_view.specs.Headers.{address_of}
use Rattle.frame_view.specs.declared.frames.Packet.{Packet}
use Rattle.frame_view.specs.declared.frames.Tag.{Tag}
use Rattle.tp_layout.specs.Packets.{IsLawfulPacket, address_rows, tci_of, tpid_of}
use Rattle.tp_layout.specs.Rows.{Row, row, zeros, bytes_of, network_at, number_at}
use Rattle.tp_layout.specs.declared.requests.RingRequest.{RingRequest}

-- the fields of tpacket2_hdr
abbrev pub slot_header_rows : ℕ → Packet → List Row
slot_header_rows status packet =
    row 0 4 status  -- tp_status
    ∷ row 4 4 packet.wire  -- tp_len
    ∷ row 8 4 (length packet.bytes)  -- tp_snaplen
    ∷ row 12 2 66  -- tp_mac
    ∷ row 14 2 80  -- tp_net
    ∷ row 16 4 packet.sec  -- tp_sec
    ∷ row 20 4 packet.nsec  -- tp_nsec
    ∷ row 24 2 (tci_of packet.tag)  -- tp_vlan_tci
    ∷ row 26 2 (tpid_of packet.tag)  -- tp_vlan_tpid
    ∷ []

-- the bytes of a slot with this status and packet: the header, 4 bytes of padding, from place 32 on
-- the address with two zeros after it and a gap of 14 bytes, from place 66 on the data. The address
-- is that of a packet in a block.
unfoldable pub slot_text : ℕ → Packet → List ℕ
slot_text status packet =
    bytes_of (slot_header_rows status packet) ++ (bytes_of (zeros 28 4)
    ++ (bytes_of (address_rows packet) ++ (bytes_of (zeros 50 16) ++ packet.bytes)))

-- a filled slot may have this status: TP_STATUS_USER (1), with or without TP_STATUS_LOSING (4), and
-- with a tag TP_STATUS_VLAN_VALID (16) and TP_STATUS_VLAN_TPID_VALID (64)
abbrev pub slot_status_may : Option Tag → ℕ → Bool
slot_status_may None status = (status == 1) || (status == 5)
slot_status_may (Some tag) status = (status == 81) || (status == 85)

-- what a filled slot may say
pub record IsLawfulSlot (shape : RingRequest) (status : ℕ) (packet : Packet) : Type 0 where
  pub sound : IsLawfulPacket packet
  pub no_hash : packet.rxhash ≡ 0
  pub filled : IsTrue (slot_status_may packet.tag status)
  pub fits : 66 + length packet.bytes ≤ shape.frame_size

-- a slot begins with this lawful text; what follows it is free
pub record SlotBegins (shape : RingRequest) (status : ℕ) (packet : Packet) (bytes : List ℕ)
    : Type 0 where
  pub lawful : IsLawfulSlot shape status packet
  pub begins : take (length (slot_text status packet)) bytes ≡ slot_text status packet

-- a slot begins with a lawful text of this packet
abbrev pub HasSlotText : RingRequest → List ℕ → Packet → Type 0
HasSlotText shape bytes packet = (status : ℕ) × SlotBegins shape status packet bytes

-- a slot begins with a lawful text of this status: this is a proposition, since the text determines
-- the packet
abbrev pub SlotBeginsLawfully : RingRequest → ℕ → List ℕ → Type 0
SlotBeginsLawfully shape status bytes =
    ∥ ((packet : Packet) × SlotBegins shape status packet bytes) ∥₁

-- the tag that a slot says, if its status says that it has one
abbrev pub slot_tag_at : List ℕ → Option Tag
slot_tag_at bytes =
    if (number_at 4 0 bytes == 81) || (number_at 4 0 bytes == 85)
    then Some (record { tpid = number_at 2 26 bytes; tci = number_at 2 24 bytes }) else None

-- the packet that a slot says
unfoldable pub slot_packet_at : List ℕ → Packet
slot_packet_at bytes = record {
  sec = number_at 4 16 bytes;
  nsec = number_at 4 20 bytes;
  wire = number_at 4 4 bytes;
  rxhash = 0;
  protocol = network_at 2 34 bytes;
  pkttype = number_at 1 42 bytes;
  addr = address_of 44 bytes;
  bytes = take (number_at 4 8 bytes) (drop 66 bytes);
  tag = slot_tag_at bytes;
}
