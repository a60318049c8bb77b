-- Numbers in the bytes of a capture.
use Rattle.std.specs.Prelude.{ℕ, ◌+◌, ◌*◌, ◌/◌, List, drop}
use Rattle.byteorder.specs.Endian.{little_number, big_number}
use Rattle.pcapng_blocks.specs.declared.byte_order.Order.{Order}
use Rattle.pcapng_blocks.specs.declared.byte_order.Order.TheVariants.{Little, Big}

-- the number in the n bytes from a place, in a byte order
unfoldable pub number_at : Order → ℕ → ℕ → List ℕ → ℕ
number_at Little n at bytes = little_number n (drop at bytes)
number_at Big n at bytes = big_number n (drop at bytes)

-- a number of bytes rounded up to 4
abbrev pub padded : ℕ → ℕ
padded size = (size + 3) / 4 * 4
