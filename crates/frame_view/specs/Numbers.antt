-- Numbers in network order: the high byte comes first. Places are counted in bytes from 0.
use Rattle.std.specs.Prelude.{ℕ, ◌+◌, ◌*◌, ◌^◌, List, slice_index}

-- the number in the two bytes from a place
abbrev pub u16_at : ℕ → List ℕ → ℕ
u16_at at bytes = slice_index bytes at * 256 + slice_index bytes (at + 1)

-- the number in the four bytes from a place
abbrev pub u32_at : ℕ → List ℕ → ℕ
u32_at at bytes = u16_at at bytes * 2 ^ 16 + u16_at (at + 2) bytes

-- the number in the eight bytes from a place
abbrev pub u64_at : ℕ → List ℕ → ℕ
u64_at at bytes = u32_at at bytes * 2 ^ 32 + u32_at (at + 4) bytes

-- the number in the sixteen bytes from a place
abbrev pub u128_at : ℕ → List ℕ → ℕ
u128_at at bytes = u64_at at bytes * 2 ^ 64 + u64_at (at + 8) bytes
