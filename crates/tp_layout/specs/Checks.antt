-- How a reader makes its tests. Their outcome is what `Faults` says.
use Rattle.std.specs.Prelude.{◌≡◌, ℕ, ◌+◌, ◌%◌, ◌<◌, ◌≤◌, Bool, true, ◌&&◌, ◌==◌, nat_lt, nat_le}
use Rattle.std.specs.Prelude.{not, length, if◌then◌else◌, List, Option, None, Some}
use Rattle.std.specs.Option.{option_or}
use Rattle.tp_layout.specs.declared.requests.RingRequest.{RingRequest}
use Rattle.tp_layout.specs.declared.error.LayoutError.{LayoutError}
use Rattle.tp_layout.specs.declared.checks.Ends.{Ends}
use Rattle.tp_layout.specs.declared.checks.Ends.TheVariants.{UpTo, At}
use Rattle.tp_layout.specs.declared.error.LayoutKind.{LayoutKind}
use Rattle.tp_layout.specs.declared.error.LayoutKind.TheVariants.{Version, Length, Offset, Count}
use Rattle.tp_layout.specs.declared.error.LayoutKind.TheVariants.{Snap, Field}
use Rattle.tp_layout.specs.Requests.{first_of}
use Rattle.tp_layout.specs.Rows.{number_at, first_fault, zeros}
use Rattle.tp_layout.specs.Packets.{padding_rows, status_of_tag, tag_at, tci_of, tpid_may, tpid_of}
use Rattle.tp_layout.specs.Blocks.{end_may, is_status, last_time, private_rows}
use Rattle.tp_layout.specs.Faults.{snap_may, next_of, packets_fault_by, packets_in, area_of}
pub use Rattle.tp_layout.specs.Readers.{told, seen}

-- where the packets of a block of this shape may end
abbrev pub fits_of : Ends → RingRequest → ℕ → Bool
fits_of (UpTo most) shape end = (end % 8 == 0) && nat_lt (first_of shape) end && nat_le end most
fits_of (At size) shape end = end_may shape end && (end == size)

-- a test and the fault if it fails; otherwise the first fault of the rest
abbrev pub unless : Bool → LayoutKind → ℕ → Option LayoutError → Option LayoutError
unless test kind at rest = if test then rest else Some (record { kind = kind; at = at })

-- the tests of a descriptor's head, as a reader makes them
unfoldable pub head_tests : (ℕ → Bool) → RingRequest → List ℕ → Option LayoutError
head_tests fits shape bytes =
    unless (number_at 4 0 bytes == 2) Version 0
    (unless (number_at 4 4 bytes == 48) Offset 4
    (unless (is_status (number_at 4 8 bytes)) Field 8
    (unless (nat_lt 0 (number_at 4 12 bytes)) Count 12
    (unless (number_at 4 16 bytes == first_of shape) Offset 16
    (unless (fits (number_at 4 20 bytes)) Length 20
    (unless (nat_lt 0 (number_at 8 24 bytes)) Field 24 None))))))

-- the tests of a packet's tpacket3_hdr
unfoldable pub header_tests : ℕ → ℕ → List ℕ → Option LayoutError
header_tests at next bytes =
    unless (number_at 4 0 bytes == next) Offset at
    (unless (nat_le (number_at 4 8 bytes) 999999999) Field (at + 8)
    (unless (number_at 4 20 bytes == status_of_tag (tag_at bytes)) Field (at + 20)
    (unless (number_at 2 24 bytes == 82) Field (at + 24)
    (unless (number_at 2 26 bytes == 96) Field (at + 26)
    (unless (number_at 4 32 bytes == tci_of (tag_at bytes)) Field (at + 32)
    (unless ((number_at 2 36 bytes == tpid_of (tag_at bytes)) && tpid_may (tag_at bytes)) Field
    (at + 36)
    (unless (number_at 2 38 bytes == 0) Field (at + 38) None)))))))

-- the tests of the sockaddr_ll at a place of a header that is itself at `base`
unfoldable pub address_tests : ℕ → ℕ → List ℕ → Option LayoutError
address_tests base at bytes =
    unless (number_at 2 at bytes == 17) Field (base + at)
    (unless (number_at 4 (at + 4) bytes == 1) Field (base + (at + 4))
    (unless (number_at 2 (at + 8) bytes == 1) Field (base + (at + 8))
    (unless (nat_le (number_at 1 (at + 10) bytes) 3) Field (base + (at + 10))
    (unless (number_at 1 (at + 11) bytes == 6) Field (base + (at + 11)) None))))

-- the tests of all fields before the data
abbrev pub fixed_tests : ℕ → ℕ → List ℕ → Option LayoutError
fixed_tests at next bytes =
    option_or (header_tests at next bytes)
    (option_or (first_fault at 40 (zeros 40 8) bytes)
    (option_or (address_tests at 48 bytes) (first_fault at 66 (zeros 66 16) bytes)))

-- the tests of a packet; `last` says that it is the last by num_pkts
unfoldable pub packet_tests : Bool → ℕ → List ℕ → Option LayoutError
packet_tests last at bytes =
    if nat_lt (length bytes) 88 then Some (record { kind = Count; at = 12 })
    else if not (snap_may bytes) then Some (record { kind = Snap; at = at + 12 })
    else option_or (fixed_tests at (next_of last bytes) bytes)
    (first_fault at (82 + number_at 4 12 bytes) (padding_rows (number_at 4 12 bytes)) bytes)

-- the tests of n packets
unfoldable pub packets_tests : ℕ → ℕ → List ℕ → Option LayoutError
packets_tests count at bytes = packets_fault_by packet_tests count at bytes

-- the tests of a descriptor up to the times, and of the zeros after it
abbrev pub descriptor_tests : (ℕ → Bool) → RingRequest → List ℕ → Option LayoutError
descriptor_tests fits shape bytes =
    option_or (head_tests fits shape bytes) (first_fault 0 48 (private_rows shape) bytes)

-- the tests of the times of a descriptor, given those of the first packet and of the last
unfoldable pub time_tests : ℕ × ℕ → ℕ × ℕ → List ℕ → Option LayoutError
time_tests first last bytes =
    unless ((number_at 4 32 bytes == first.0) && (number_at 4 36 bytes == first.1)) Field 32
    (unless ((number_at 4 40 bytes == last.0) && (number_at 4 44 bytes == last.1)) Field 40 None)

-- the tests of a block
unfoldable pub block_tests : (ℕ → Bool) → RingRequest → List ℕ → Option LayoutError
block_tests fits shape bytes =
    option_or (descriptor_tests fits shape bytes)
    (option_or (packets_tests (number_at 4 12 bytes) (first_of shape) (area_of shape bytes))
    (time_tests (number_at 4 4 (area_of shape bytes), number_at 4 8 (area_of shape bytes))
    (last_time (packets_in (number_at 4 12 bytes) (area_of shape bytes))) bytes))

-- packets may end only after the first packet's place and within n bytes
abbrev pub EndsWithin : RingRequest → (ℕ → Bool) → ℕ → Type 0
EndsWithin shape fits size = (end : ℕ) → fits end ≡ true → (first_of shape < end) × (end ≤ size)

-- bytes that begin with n packets that passed their tests
abbrev pub PassesTests : ℕ → List ℕ → Type 0
PassesTests count bytes =
    (at : ℕ) × (packets_tests count at bytes ≡ None) × (length bytes ≤ 1048576)
