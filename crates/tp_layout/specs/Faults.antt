-- Why a reader refuses a block: the first test that fails, with its place. Places are in bytes.
use Rattle.std.specs.Prelude.{ℕ, zero, suc, ◌+◌, ◌-◌, Bool, ◌&&◌, not, ◌==◌, nat_lt, nat_le}
use Rattle.std.specs.Prelude.{if◌then◌else◌, List, [], ◌∷◌, ◌++◌, length, take, drop, replicate}
use Rattle.std.specs.Prelude.{Option, None, Some}
use Rattle.std.specs.Option.{option_or}
use Rattle.frame_view.specs.declared.frames.Packet.{Packet}
use Rattle.tp_layout.specs.declared.requests.RingRequest.{RingRequest}
use Rattle.tp_layout.specs.declared.error.LayoutError.{LayoutError}
use Rattle.tp_layout.specs.declared.error.LayoutKind.TheVariants.{Length, Count, Snap}
use Rattle.tp_layout.specs.Requests.{first_of}
use Rattle.tp_layout.specs.Rows.{number_at, first_fault}
use Rattle.tp_layout.specs.Packets.{packet_rows, padding_rows, packet_at, need_at}
use Rattle.tp_layout.specs.Blocks.{Descriptor, head_rows, time_rows, private_rows, end_may}
use Rattle.tp_layout.specs.Blocks.{first_time, last_time}

-- the snap length of the packet at the start: at least 1, at most its wire length, and the packet
-- ends within the bytes
abbrev pub snap_may : List ℕ → Bool
snap_may bytes =
    nat_le 1 (number_at 4 12 bytes)
    && nat_le (number_at 4 12 bytes) (number_at 4 16 bytes)
    && nat_le (need_at bytes) (length bytes)

-- what the offset of the next packet has to be
abbrev pub next_of : Bool → List ℕ → ℕ
next_of last bytes = if last then 0 else need_at bytes

-- the first fault of the packet at the start of bytes that are at `at`; `last` says that it is the
-- last by num_pkts
unfoldable pub packet_fault : Bool → ℕ → List ℕ → Option LayoutError
packet_fault last at bytes =
    if nat_lt (length bytes) 88 then Some (record { kind = Count; at = 12 })
    else if not (snap_may bytes) then Some (record { kind = Snap; at = at + 12 })
    else option_or (first_fault at 0 (packet_rows (next_of last bytes) (packet_at bytes)) bytes)
    (first_fault at (82 + number_at 4 12 bytes) (padding_rows (number_at 4 12 bytes)) bytes)

-- the first fault of n packets in bytes that begin at `at`, given that of the packet at the start;
-- no byte may be left after them
unfoldable pub packets_fault_by :
    (Bool → ℕ → List ℕ → Option LayoutError) → ℕ → ℕ → List ℕ → Option LayoutError
packets_fault_by fault zero at [] = None
packets_fault_by fault zero at (byte ∷ bytes) = Some (record { kind = Length; at = 20 })
packets_fault_by fault (suc more) at bytes = option_or (fault (more == 0) at bytes)
    (packets_fault_by fault more (at + need_at bytes) (drop (need_at bytes) bytes))

-- the first fault of n packets in bytes that begin at `at`
unfoldable pub packets_fault : ℕ → ℕ → List ℕ → Option LayoutError
packets_fault count at bytes = packets_fault_by packet_fault count at bytes

-- n packets from the start of the bytes
unfoldable pub packets_in : ℕ → List ℕ → List Packet
packets_in zero bytes = []
packets_in (suc more) bytes = packet_at bytes ∷ packets_in more (drop (need_at bytes) bytes)

-- the bytes of a block's packets
abbrev pub area_of : RingRequest → List ℕ → List ℕ
area_of shape bytes = drop (first_of shape) (take (number_at 4 20 bytes) bytes)

-- the packets of a block
unfoldable pub packets_of : RingRequest → List ℕ → List Packet
packets_of shape bytes = packets_in (number_at 4 12 bytes) (area_of shape bytes)

-- what the descriptor at the start of a block says, with the times of its packets
abbrev pub descriptor_at : List Packet → List ℕ → Descriptor
descriptor_at packets bytes = record {
  number = number_at 8 24 bytes;
  status = number_at 4 8 bytes;
  count = number_at 4 12 bytes;
  end = number_at 4 20 bytes;
  first_sec = (first_time packets).0;
  first_nsec = (first_time packets).1;
  last_sec = (last_time packets).0;
  last_nsec = (last_time packets).1;
}

-- the first fault of a block: its head, its private area, its packets, their times; `fits` says
-- where packets may end
unfoldable pub fault_by : (ℕ → Bool) → RingRequest → List ℕ → Option LayoutError
fault_by fits shape bytes =
    let desc = descriptor_at (packets_of shape bytes) bytes in
    option_or (first_fault 0 0 (head_rows fits shape desc) bytes)
    (option_or (first_fault 0 48 (private_rows shape) bytes)
    (option_or (packets_fault desc.count (first_of shape) (area_of shape bytes))
    (first_fault 0 32 (time_rows desc) bytes)))

-- the first fault of a block
unfoldable pub fault_of : RingRequest → List ℕ → Option LayoutError
fault_of shape bytes = fault_by (end_may shape) shape bytes

-- the block that a text begins, with zeros after it
abbrev pub padded : RingRequest → List ℕ → List ℕ
padded shape text = text ++ replicate (shape.block_size - length text) 0

-- the first fault of a text: that of the block, whose packets have to end with the text
unfoldable pub text_fault : RingRequest → List ℕ → Option LayoutError
text_fault shape text =
    fault_by (λ end. end_may shape end && (end == length text)) shape (padded shape text)
