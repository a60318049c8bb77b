-- The Toeplitz hash of receive side scaling, over lists of bits. A bit is 0 or 1, and the first of
-- a list is the leftmost.
use Rattle.std.specs.Prelude.{ℕ, ◌+◌, ◌*◌, ◌^◌, List, [], ◌∷◌, ◌++◌, length, take, drop, ◌==◌}
use Rattle.std.specs.Prelude.{if◌then◌else◌, bit_xor}
use Rattle.std.specs.Int.{bit_at}

-- the eight bits of a byte, the highest first
abbrev pub bits_of_byte : ℕ → List ℕ
bits_of_byte byte =
    bit_at byte 7 ∷ bit_at byte 6 ∷ bit_at byte 5 ∷ bit_at byte 4
    ∷ bit_at byte 3 ∷ bit_at byte 2 ∷ bit_at byte 1 ∷ bit_at byte 0 ∷ []

-- the bits of some bytes
unfoldable pub bits_of : List ℕ → List ℕ
bits_of [] = []
bits_of (byte ∷ rest) = bits_of_byte byte ++ bits_of rest

-- the number that some bits spell
unfoldable pub number_of : List ℕ → ℕ
number_of [] = 0
number_of (bit ∷ rest) = bit * 2 ^ length rest + number_of rest

-- the 32 bits of the key that begin at the place of a bit of the input, if that bit is set
abbrev pub share_of : List ℕ → ℕ → ℕ
share_of key bit = if bit == 1 then number_of (take 32 key) else 0

-- the exclusive or of these over all bits of the input; the key advances with the input
unfoldable pub toeplitz_of : List ℕ → List ℕ → ℕ
toeplitz_of key [] = 0
toeplitz_of key (bit ∷ input) = bit_xor (share_of key bit) (toeplitz_of (drop 1 key) input)

-- the hash of some bytes under a key of bytes
abbrev pub hash_of : List ℕ → List ℕ → ℕ
hash_of key input = toeplitz_of (bits_of key) (bits_of input)
