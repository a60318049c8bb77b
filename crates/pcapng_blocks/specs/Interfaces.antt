-- An interface of a section, and the moments that its time stamps mean.
use Rattle.std.specs.Prelude.{ℕ, zero, suc, ◌+◌, ◌-◌, ◌*◌, ◌/◌, ◌%◌, ◌^◌, min, Bool, true, false}
use Rattle.std.specs.Prelude.{◌&&◌, ◌==◌, nat_lt, if◌then◌else◌, List, length, take, drop}
use Rattle.std.specs.Prelude.{slice_index}
use Rattle.pcapng_blocks.specs.declared.byte_order.Order.{Order}
use Rattle.pcapng_blocks.specs.declared.interfaces.Interface.{Interface}
use Rattle.pcapng_blocks.specs.Numbers.{number_at, padded}

-- the bytes are an option and what follows it: its code isn't 0 and its value is there
unfoldable pub begins_option : Order → List ℕ → Bool
begins_option order bytes =
    if nat_lt (length bytes) 4 then false
    else if number_at order 2 0 bytes == 0 then false
    else if nat_lt (length bytes) (4 + number_at order 2 2 bytes) then false
    else true

-- the time resolution after the first of these options (if_tsresol is option 9 and has one byte)
abbrev pub resolution_after : Order → ℕ → List ℕ → ℕ
resolution_after order so_far bytes =
    if (number_at order 2 0 bytes == 9) && (number_at order 2 2 bytes == 1) then slice_index bytes 4
    else so_far

-- the last time resolution among the first n options
unfoldable pub resolution_within : ℕ → Order → ℕ → List ℕ → ℕ
resolution_within zero order so_far bytes = so_far
resolution_within (suc most) order so_far bytes =
    if begins_option order bytes
    then resolution_within most order (resolution_after order so_far bytes)
    (drop (4 + padded (number_at order 2 2 bytes)) bytes)
    else so_far

-- the last time resolution of the options; without one it is `so_far`
unfoldable pub resolution_of : Order → ℕ → List ℕ → ℕ
resolution_of order so_far bytes = resolution_within (length bytes) order so_far bytes

-- the interface that a whole block says; without if_tsresol the unit is 10^-6 seconds
unfoldable pub interface_of : Order → List ℕ → Interface
interface_of order block = record {
  snaplen = number_at order 4 12 block;
  resolution = resolution_of order 6 (drop 16 (take (length block - 4) block));
}

-- the nanoseconds of a time stamp: with the low seven bits k, its unit is 10^-k seconds, or 2^-k
-- with the top bit
unfoldable pub nanoseconds : ℕ → ℕ → ℕ
nanoseconds resolution stamp =
    if nat_lt resolution 128 then stamp * 1000000000 / 10 ^ resolution
    else stamp * 1000000000 / 2 ^ (resolution - 128)

-- the seconds of a number of nanoseconds, at most the greatest number of 32 bits, and the
-- nanoseconds beyond whole seconds
abbrev pub seconds : ℕ → ℕ
seconds nanos = min (nanos / 1000000000) 4294967295

abbrev pub remainder : ℕ → ℕ
remainder nanos = nanos % 1000000000
