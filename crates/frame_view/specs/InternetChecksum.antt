-- The Internet checksum of RFC 1071.
use Rattle.std.specs.Prelude.{ℕ, ◌+◌, ◌-◌, ◌*◌, ◌^◌, List, [], ◌∷◌, nat_lt, if◌then◌else◌}

-- the ones' complement sum of two numbers of 16 bits: a carry out of the highest bit is added to
-- the lowest
abbrev pub ones_sum : ℕ → ℕ → ℕ
ones_sum a b = if nat_lt (a + b) (2 ^ 16) then a + b else a + b - 2 ^ 16 + 1

-- the ones' complement sum of the 16-bit words of some bytes; an odd last byte has a zero after it
abbrev pub sum_of : List ℕ → ℕ
sum_of [] = 0
sum_of (high ∷ []) = high * 256
sum_of (high ∷ low ∷ rest) = ones_sum (high * 256 + low) (sum_of rest)

-- the Internet checksum of RFC 1071, the ones' complement of that sum
unfoldable pub checksum_of : List ℕ → ℕ
checksum_of bytes = 0xffff - sum_of bytes
