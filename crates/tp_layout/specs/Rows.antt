-- A layout as a table: one row for each field, in their order. Sizes and places are in bytes.
use Rattle.std.specs.Prelude.{ℕ, zero, suc, ◌+◌, Bool, true, ◌&&◌, ◌==◌, if◌then◌else◌, List, []}
use Rattle.std.specs.Prelude.{◌∷◌, ◌++◌, drop, Option, None, Some}
use Rattle.byteorder.specs.Endian.{little_bytes, little_number, big_number}
use Rattle.tp_layout.specs.declared.error.LayoutError.{LayoutError}
use Rattle.tp_layout.specs.declared.error.LayoutKind.{LayoutKind}
use Rattle.tp_layout.specs.declared.error.LayoutKind.TheVariants.{Field}

pub record Row : Type 0 where
  -- its place, from the start of its header
  pub at : ℕ
  -- the number of its bytes
  pub size : ℕ
  -- the number in these bytes, the lowest byte first
  pub value : ℕ
  -- its name if it is at fault
  pub kind : LayoutKind
  -- whether a header with this number is lawful
  pub may : Bool

-- a field with a fixed number, or with any number
abbrev pub row : ℕ → ℕ → ℕ → Row
row at size value = record { at = at; size = size; value = value; kind = Field; may = true }

-- a field with a number that is bounded
abbrev pub bound : ℕ → ℕ → ℕ → Bool → Row
bound at size value may = record { at = at; size = size; value = value; kind = Field; may = may }

-- n bytes of zero, each a field of its own
abbrev pub zeros : ℕ → ℕ → List Row
zeros at zero = []
zeros at (suc n) = row at 1 0 ∷ zeros (at + 1) n

-- the number in the n bytes from a place, the lowest byte first
unfoldable pub number_at : ℕ → ℕ → List ℕ → ℕ
number_at n at bytes = little_number n (drop at bytes)

-- the number in the n bytes from a place in network order, the highest byte first
unfoldable pub network_at : ℕ → ℕ → List ℕ → ℕ
network_at n at bytes = big_number n (drop at bytes)

-- the bytes of a table, those of one field after another
unfoldable pub bytes_of : List Row → List ℕ
bytes_of [] = []
bytes_of (row ∷ rows) = little_bytes row.size row.value ++ bytes_of rows

-- the number of these bytes
abbrev pub size_of_rows : List Row → ℕ
size_of_rows [] = 0
size_of_rows (row ∷ rows) = row.size + size_of_rows rows

-- the first field of a table that isn't in the bytes from `from` on as the table has it; the header
-- is at `base`
unfoldable pub first_fault : ℕ → ℕ → List Row → List ℕ → Option LayoutError
first_fault base from [] bytes = None
first_fault base from (row ∷ rows) bytes =
    if (number_at row.size from bytes == row.value) && row.may
    then first_fault base (from + row.size) rows bytes
    else Some (record { kind = row.kind; at = base + row.at })
