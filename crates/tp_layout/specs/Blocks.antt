-- The text of a retired block: its descriptor (`struct tpacket_block_desc`), zeros, its packets.
use Rattle.std.specs.Prelude.{◌≡◌, ℕ, ◌+◌, ◌-◌, ◌%◌, ◌^◌, ◌<◌, ◌≤◌, Bool, true, ◌||◌, ◌&&◌, ◌==◌}
use Rattle.std.specs.Prelude.{nat_lt, nat_le, IsTrue, List, [], ◌∷◌, ◌++◌, length, take, sum_by}
use Rattle.std.specs.List.{AllByRecursion}
use Rattle.frame_view.specs.declared.frames.Packet.{Packet}
use Rattle.tp_layout.specs.declared.requests.RingRequest.{RingRequest}
use Rattle.tp_layout.specs.declared.error.LayoutKind.TheVariants.{Version, Length, Offset, Count}
use Rattle.tp_layout.specs.Requests.{first_of}
use Rattle.tp_layout.specs.Rows.{Row, row, bound, zeros, bytes_of}
use Rattle.tp_layout.specs.Packets.{packet_text, need_of_packet, IsLawfulPacket}

-- a status of a retired block: TP_STATUS_USER (1), with TP_STATUS_LOSING (4), TP_STATUS_BLK_TMO
-- (32) or both
abbrev pub is_status : ℕ → Bool
is_status status = (status == 1) || (status == 5) || (status == 33) || (status == 37)

-- what a descriptor says
pub record Descriptor : Type 0 where
  pub number : ℕ
  pub status : ℕ
  -- the number of packets
  pub count : ℕ
  -- the place after the last packet
  pub end : ℕ
  -- the times of the first packet and of the last
  pub first_sec : ℕ
  pub first_nsec : ℕ
  pub last_sec : ℕ
  pub last_nsec : ℕ

-- whether the packets of a block may end at this place: a multiple of 8 after the first packet's
-- place, within the block
abbrev pub end_may : RingRequest → ℕ → Bool
end_may shape end = (end % 8 == 0) && nat_lt (first_of shape) end && nat_le end shape.block_size

-- the fields before the times; `fits` says where packets may end
abbrev pub head_rows : (ℕ → Bool) → RingRequest → Descriptor → List Row
head_rows fits shape desc =
    -- version
    record { at = 0; size = 4; value = 2; kind = Version; may = true }
    -- offset_to_priv
    ∷ record { at = 4; size = 4; value = 48; kind = Offset; may = true }
    -- block_status
    ∷ bound 8 4 desc.status (is_status desc.status)
    -- num_pkts
    ∷ record { at = 12; size = 4; value = desc.count; kind = Count; may = nat_lt 0 desc.count }
    -- offset_to_first_pkt
    ∷ record { at = 16; size = 4; value = first_of shape; kind = Offset; may = true }
    -- blk_len
    ∷ record { at = 20; size = 4; value = desc.end; kind = Length; may = fits desc.end }
    -- seq_num
    ∷ bound 24 8 desc.number (nat_lt 0 desc.number)
    ∷ []

-- the two times, each one field of two numbers
abbrev pub time_rows : Descriptor → List Row
time_rows desc =
    row 32 4 desc.first_sec ∷ row 32 4 desc.first_nsec  -- ts_first_pkt
    ∷ row 40 4 desc.last_sec ∷ row 40 4 desc.last_nsec  -- ts_last_pkt
    ∷ []

-- the zeros after the descriptor, which are a private area that nobody writes
abbrev pub private_rows : RingRequest → List Row
private_rows shape = zeros 48 (first_of shape - 48)

-- all bytes before the first packet
unfoldable pub descriptor_text : RingRequest → Descriptor → List ℕ
descriptor_text shape desc =
    bytes_of (head_rows (end_may shape) shape desc)
    ++ (bytes_of (time_rows desc) ++ bytes_of (private_rows shape))

-- packets one after another; each except the last says where the next one is
unfoldable pub packets_text : List Packet → List ℕ
packets_text [] = []
packets_text (packet ∷ []) = packet_text 0 packet
packets_text (packet ∷ next ∷ packets) =
    packet_text (need_of_packet packet) packet ++ packets_text (next ∷ packets)

-- the bytes that packets take
abbrev pub needs_of : List Packet → ℕ
needs_of packets = sum_by need_of_packet packets

-- the time of the first packet, in seconds and nanoseconds
abbrev pub first_time : List Packet → ℕ × ℕ
first_time [] = (0, 0)
first_time (packet ∷ packets) = (packet.sec, packet.nsec)

-- the time of the last packet, or the given one if there is none
abbrev pub last_time_after : ℕ × ℕ → List Packet → ℕ × ℕ
last_time_after time [] = time
last_time_after time (packet ∷ packets) = last_time_after (packet.sec, packet.nsec) packets

-- the time of the last packet
abbrev pub last_time : List Packet → ℕ × ℕ
last_time packets = last_time_after (0, 0) packets

-- the descriptor of a retired block
abbrev pub descriptor_of : RingRequest → ℕ → ℕ → List Packet → Descriptor
descriptor_of shape number status packets = record {
  number = number;
  status = status;
  count = length packets;
  end = first_of shape + needs_of packets;
  first_sec = (first_time packets).0;
  first_nsec = (first_time packets).1;
  last_sec = (last_time packets).0;
  last_nsec = (last_time packets).1;
}

-- the text of the block of this shape, number and status with these packets
unfoldable pub block_text : RingRequest → ℕ → ℕ → List Packet → List ℕ
block_text shape number status packets =
    descriptor_text shape (descriptor_of shape number status packets) ++ packets_text packets

-- what a retired block may say
pub record IsLawful (shape : RingRequest) (number status : ℕ) (packets : List Packet) : Type 0 where
  pub numbered : 0 < number
  pub small : number < 2 ^ 64
  pub retired : IsTrue (is_status status)
  pub some : 0 < length packets
  pub each : AllByRecursion IsLawfulPacket packets
  pub fits : first_of shape + needs_of packets ≤ shape.block_size

-- a block begins with this lawful text; what follows it is free
pub record BeginsWith (shape : RingRequest) (number status : ℕ) (packets : List Packet)
    (bytes : List ℕ) : Type 0 where
  pub lawful : IsLawful shape number status packets
  pub begins :
      take (length (block_text shape number status packets)) bytes
      ≡ block_text shape number status packets

-- a block begins with a lawful text of these packets
abbrev pub HasText : RingRequest → List ℕ → List Packet → Type 0
HasText shape bytes packets =
    (number : ℕ) × (status : ℕ) × BeginsWith shape number status packets bytes

-- a block begins with a lawful text of this number and status: this is a proposition, since the
-- text determines the packets
abbrev pub BeginsLawfully : RingRequest → ℕ → ℕ → List ℕ → Type 0
BeginsLawfully shape number status bytes =
    ∥ ((packets : List Packet) × BeginsWith shape number status packets bytes) ∥₁
