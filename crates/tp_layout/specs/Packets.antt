-- A packet in a block: `struct tpacket3_hdr`, `struct sockaddr_ll`, a gap, the data. Sizes and
-- places are in bytes.
use Rattle.std.specs.Prelude.{◌≡◌, ℕ, ◌+◌, ◌-◌, ◌/◌, ◌%◌, ◌^◌, ◌<◌, ◌≤◌, Bool, true, ◌==◌, nat_le}
use Rattle.std.specs.Prelude.{if◌then◌else◌, IfSome, IsTrue, All, List, [], ◌∷◌, ◌++◌, length, take}
use Rattle.std.specs.Prelude.{drop, slice_index, Option, None, Some}
use Rattle.frame_view.specs.Headers.{address_of}
use Rattle.frame_view.specs.Vlan.{is_tpid}
use Rattle.frame_view.specs.declared.frames.Packet.{Packet}
use Rattle.frame_view.specs.declared.frames.Tag.{Tag}
use Rattle.ring_model.specs.Sizes.{need_of}
use Rattle.tp_layout.specs.declared.error.LayoutKind.TheVariants.{Offset}
use Rattle.tp_layout.specs.Rows.{Row, row, bound, zeros, bytes_of, number_at, network_at}

-- the packet's status: TP_STATUS_USER (1), and with a tag TP_STATUS_VLAN_VALID (16) and
-- TP_STATUS_VLAN_TPID_VALID (64)
abbrev pub status_of_tag : Option Tag → ℕ
status_of_tag None = 1
status_of_tag (Some tag) = 81

abbrev pub tci_of : Option Tag → ℕ
tci_of None = 0
tci_of (Some tag) = tag.tci

abbrev pub tpid_of : Option Tag → ℕ
tpid_of None = 0
tpid_of (Some tag) = tag.tpid

-- no tag, or one of IEEE 802.1Q or 802.1ad
abbrev pub tpid_may : Option Tag → Bool
tpid_may None = true
tpid_may (Some tag) = is_tpid tag.tpid

-- the fields of tpacket3_hdr; `next` is the offset of the next packet, 0 in the last
abbrev pub header_rows : ℕ → Packet → List Row
header_rows next packet =
    record { at = 0; size = 4; value = next; kind = Offset; may = true }  -- tp_next_offset
    ∷ row 4 4 packet.sec  -- tp_sec
    ∷ bound 8 4 packet.nsec (nat_le packet.nsec 999999999)  -- tp_nsec
    ∷ row 12 4 (length packet.bytes)  -- tp_snaplen
    ∷ row 16 4 packet.wire  -- tp_len
    ∷ row 20 4 (status_of_tag packet.tag)  -- tp_status
    ∷ row 24 2 82  -- tp_mac
    ∷ row 26 2 96  -- tp_net
    ∷ row 28 4 packet.rxhash  -- tp_rxhash
    ∷ row 32 4 (tci_of packet.tag)  -- tp_vlan_tci
    ∷ bound 36 2 (tpid_of packet.tag) (tpid_may packet.tag)  -- tp_vlan_tpid
    ∷ row 38 2 0  -- tp_padding
    ∷ []

-- the fields of sockaddr_ll; sll_protocol is in network order
abbrev pub address_rows : Packet → List Row
address_rows packet =
    row 48 2 17  -- sll_family: AF_PACKET
    ∷ row 50 1 (packet.protocol / 256) ∷ row 51 1 (packet.protocol % 256)  -- sll_protocol
    ∷ row 52 4 1  -- sll_ifindex
    ∷ row 56 2 1  -- sll_hatype: ARPHRD_ETHER
    ∷ bound 58 1 packet.pkttype (nat_le packet.pkttype 3)  -- sll_pkttype
    ∷ row 59 1 6  -- sll_halen
    ∷ row 60 1 (slice_index packet.addr 0) ∷ row 61 1 (slice_index packet.addr 1)
    ∷ row 62 1 (slice_index packet.addr 2) ∷ row 63 1 (slice_index packet.addr 3)
    ∷ row 64 1 (slice_index packet.addr 4) ∷ row 65 1 (slice_index packet.addr 5)
    ∷ []

-- all 82 bytes before the data: the header, 8 bytes of padding, the address with two zeros after
-- it, a gap of 14 bytes
unfoldable pub packet_rows : ℕ → Packet → List Row
packet_rows next packet =
    header_rows next packet ++ (zeros 40 8 ++ (address_rows packet ++ zeros 66 16))

-- the zeros after the data
abbrev pub padding_rows : ℕ → List Row
padding_rows snap = zeros (82 + snap) (need_of snap - (82 + snap))

-- the bytes of a packet, `need_of` of its data's length in all
unfoldable pub packet_text : ℕ → Packet → List ℕ
packet_text next packet =
    bytes_of (packet_rows next packet)
    ++ (packet.bytes ++ bytes_of (padding_rows (length packet.bytes)))

-- the bytes that a packet takes
abbrev pub need_of_packet : Packet → ℕ
need_of_packet packet = need_of (length packet.bytes)

-- what the fields of a packet can hold, by their sizes
pub record IsTyped (packet : Packet) : Type 0 where
  pub sec : packet.sec < 2 ^ 32
  pub wire : packet.wire < 2 ^ 32
  pub rxhash : packet.rxhash < 2 ^ 32
  pub protocol : packet.protocol < 2 ^ 16
  pub six : length packet.addr ≡ 6
  pub addr : All (λ byte. byte < 256) packet.addr
  pub tci : IfSome packet.tag (λ tag. tag.tci < 2 ^ 16)

-- a packet that may be in a block
pub record IsLawfulPacket (packet : Packet) : Type 0 where
  pub some : 0 < length packet.bytes
  pub captured : length packet.bytes ≤ packet.wire
  pub nsec : packet.nsec ≤ 999999999
  pub pkttype : packet.pkttype ≤ 3
  pub tag : IfSome packet.tag (λ tag. IsTrue (is_tpid tag.tpid))
  pub typed : IsTyped packet

-- the tag that a header says, if its status says that it has one
abbrev pub tag_at : List ℕ → Option Tag
tag_at bytes =
    if number_at 4 20 bytes == 81
    then Some (record { tpid = number_at 2 36 bytes; tci = number_at 4 32 bytes % 65536 })
    else None

-- the packet at the start of the bytes
unfoldable pub packet_at : List ℕ → Packet
packet_at bytes = record {
  sec = number_at 4 4 bytes;
  nsec = number_at 4 8 bytes;
  wire = number_at 4 16 bytes;
  rxhash = number_at 4 28 bytes;
  protocol = network_at 2 50 bytes;
  pkttype = number_at 1 58 bytes;
  addr = address_of 60 bytes;
  bytes = take (number_at 4 12 bytes) (drop 82 bytes);
  tag = tag_at bytes;
}

-- the bytes that the packet at the start takes
abbrev pub need_at : List ℕ → ℕ
need_at bytes = need_of (number_at 4 12 bytes)
