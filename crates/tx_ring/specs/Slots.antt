-- A slot of a transmit ring, as bytes: a header of 48 bytes, the bytes that were given, and zeros.
-- Sizes and places are in bytes.
use Rattle.std.specs.Prelude.{◌≡◌, ℕ, ◌+◌, ◌-◌, ◌^◌, ◌<◌, ◌≤◌, List, [], ◌++◌, length, take, drop}
use Rattle.std.specs.Prelude.{replicate, slice_index_or}
use Rattle.byteorder.specs.Endian.{little_bytes}
use Rattle.tp_layout.specs.Rows.{number_at}

-- what a slot asks for: the offset to a next frame, the length of the frame and the bytes that it
-- begins with
pub record Request : Type 0 where
  pub next_offset : ℕ
  pub length : ℕ
  pub bytes : List ℕ

-- a slot of n bytes: its status and what it asks for
pub record SlotState : Type 0 where
  pub size : ℕ
  pub status : ℕ
  pub request : Request

-- the request of a slot that nothing was written into
abbrev pub no_request : Request
no_request = record { next_offset = 0; length = 0; bytes = [] }

-- a slot that nothing was written into
abbrev pub empty_slot : ℕ → SlotState
empty_slot size = record { size = size; status = 0; request = no_request }

-- the slot at a place
abbrev pub slot_at : List SlotState → ℕ → SlotState
slot_at slots at = slice_index_or slots at (empty_slot 0)

-- the header of a slot (`struct tpacket3_hdr`): tp_next_offset at 0, tp_snaplen at 12, tp_len at 16
-- and tp_status at 20, the lowest byte first; the other fields are 0
unfoldable pub header_text : ℕ → Request → List ℕ
header_text status request =
    little_bytes 4 request.next_offset ++ (replicate 8 0 ++ (little_bytes 4 (length request.bytes)
    ++ (little_bytes 4 request.length ++ (little_bytes 4 status ++ replicate 24 0))))

-- the bytes of a slot
unfoldable pub slot_text : SlotState → List ℕ
slot_text slot =
    header_text slot.status slot.request
    ++ (slot.request.bytes ++ replicate (slot.size - (48 + length slot.request.bytes)) 0)

-- what the bytes of a slot say
abbrev pub slot_in : List ℕ → SlotState
slot_in bytes = record {
  size = length bytes;
  status = number_at 4 20 bytes;
  request = record {
    next_offset = number_at 4 0 bytes;
    length = number_at 4 16 bytes;
    bytes = take (number_at 4 12 bytes) (drop 48 bytes);
  };
}

-- the numbers of a slot fit its fields, and its bytes fit after its header
pub record IsSound (slot : SlotState) : Type 0 where
  pub status : slot.status < 2 ^ 32
  pub next_offset : slot.request.next_offset < 2 ^ 32
  pub asked : slot.request.length < 2 ^ 32
  pub given : length slot.request.bytes < 2 ^ 32
  pub fits : 48 + length slot.request.bytes ≤ slot.size

-- bytes that are those of a slot
pub record IsSlot (bytes : List ℕ) : Type 0 where
  pub text : bytes ≡ slot_text (slot_in bytes)
  pub sound : IsSound (slot_in bytes)

-- bytes in which the slot of this size at a place has these
abbrev pub put_slot : ℕ → ℕ → List ℕ → List ℕ → List ℕ
put_slot from size bytes slot = take from bytes ++ (slot ++ drop (from + size) bytes)
