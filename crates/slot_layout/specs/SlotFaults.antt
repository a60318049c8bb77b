-- Why a reader refuses a slot: the first test that fails, with its place. Places are in bytes.
use Rattle.std.specs.Prelude.{ℕ, ◌-◌, Bool, ◌||◌, ◌&&◌, ◌==◌, nat_le, List, Option, None}
use Rattle.std.specs.Option.{option_or}
use Rattle.tp_layout.specs.Checks.{address_tests, unless}
use Rattle.tp_layout.specs.Packets.{tci_of, tpid_may, tpid_of}
use Rattle.tp_layout.specs.Rows.{first_fault, number_at, zeros}
use Rattle.tp_layout.specs.declared.error.LayoutError.{LayoutError}
use Rattle.tp_layout.specs.declared.error.LayoutKind.TheVariants.{Field, Offset, Snap}
use Rattle.tp_layout.specs.declared.requests.RingRequest.{RingRequest}
use Rattle.slot_layout.specs.SlotTexts.{slot_tag_at}

-- a status of a filled slot, with a tag or without
abbrev pub is_slot_status : ℕ → Bool
is_slot_status status = (status == 1) || (status == 5) || (status == 81) || (status == 85)

-- the snap length is at least 1, at most the wire length, and its data ends within the slot
abbrev pub slot_snap_may : RingRequest → List ℕ → Bool
slot_snap_may shape bytes =
    nat_le 1 (number_at 4 8 bytes) && nat_le (number_at 4 8 bytes) (number_at 4 4 bytes)
    && nat_le (number_at 4 8 bytes) (shape.frame_size - 66)

-- the tests of tp_status, tp_snaplen, tp_mac, tp_net and tp_nsec
unfoldable pub slot_head_fault : RingRequest → List ℕ → Option LayoutError
slot_head_fault shape bytes =
    unless (is_slot_status (number_at 4 0 bytes)) Field 0
    (unless (slot_snap_may shape bytes) Snap 8
    (unless (number_at 2 12 bytes == 66) Offset 12
    (unless (number_at 2 14 bytes == 80) Offset 14
    (unless (nat_le (number_at 4 20 bytes) 999999999) Field 20 None))))

-- the tests of tp_vlan_tci and tp_vlan_tpid: both are 0 without a tag
unfoldable pub slot_vlan_fault : List ℕ → Option LayoutError
slot_vlan_fault bytes =
    unless (number_at 2 24 bytes == tci_of (slot_tag_at bytes)) Field 24
    (unless ((number_at 2 26 bytes == tpid_of (slot_tag_at bytes)) && tpid_may (slot_tag_at bytes))
    Field 26 None)

-- the first fault of a slot; the tests of sockaddr_ll are those of a packet in a block; padding,
-- the end of the address and the gap are zeros, each byte a field of its own
unfoldable pub slot_text_fault : RingRequest → List ℕ → Option LayoutError
slot_text_fault shape bytes =
    option_or (slot_head_fault shape bytes)
    (option_or (slot_vlan_fault bytes)
    (option_or (first_fault 0 28 (zeros 28 4) bytes)
    (option_or (address_tests 0 32 bytes) (first_fault 0 50 (zeros 50 16) bytes))))
