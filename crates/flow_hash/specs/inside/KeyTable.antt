-- The table of a key: what each half of a byte adds to the hash, at each place of the input.
use Rattle.std.specs.Prelude.{ℕ, ◌*◌, ◌-◌, ◌/◌, ◌%◌, List, nat_lt, if◌then◌else◌, drop, map}
use Rattle.std.specs.List.{range_with_len}
use Rattle.flow_hash.specs.Toeplitz.{toeplitz_of, bits_of, bits_of_byte}

-- the byte of an entry of a row: the first 16 have only an upper half, the others only a lower
abbrev pub half_byte : ℕ → ℕ
half_byte entry = if nat_lt entry 16 then entry * 16 else entry - 16

-- what that byte adds to the hash; a row has 32 entries, and its number is the byte's place
unfoldable pub entry_of : List ℕ → ℕ → ℕ
entry_of key entry =
    toeplitz_of (bits_of (drop (entry / 32) key)) (bits_of_byte (half_byte (entry % 32)))

-- so many entries, from the first on
unfoldable pub entries_of : List ℕ → ℕ → List ℕ
entries_of key count = map (entry_of key) (range_with_len 0 count)

-- the whole table: a row for each of the 36 places
abbrev pub table_of : List ℕ → List ℕ
table_of key = entries_of key (36 * 32)
