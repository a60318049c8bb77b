-- What a pcapng capture says, over the whole list of its bytes, which begins with a section header.
use Rattle.std.specs.Prelude.{ℕ, Bool, false, nat_lt, if◌then◌else◌, List, [], length, take, Option}
use Rattle.std.specs.Prelude.{None, Some}
use Rattle.std.specs.Option.{option_or}
use Rattle.frame_view.specs.declared.frames.Frame.{Frame}
use Rattle.pcapng_blocks.specs.declared.byte_order.Order.TheVariants.{Little}
use Rattle.pcapng_blocks.specs.declared.error.BlockError.{BlockError}
use Rattle.pcapng_blocks.specs.declared.error.BlockError.TheVariants.{TooLarge, Truncated}
use Rattle.pcapng_blocks.specs.declared.heads.Look.{Look}
use Rattle.pcapng_blocks.specs.declared.heads.Look.TheVariants as looks
use Rattle.pcapng_blocks.specs.Heads.{look_at, is_skipped}
use Rattle.pcapng_blocks.specs.Blocks.{Spot, Reached, split_from}

-- the bytes that count: at most the first 33,554,432
abbrev pub counted : List ℕ → List ℕ
counted bytes = take 33554432 bytes

-- the place before all blocks; the first section header says the byte order
abbrev pub origin : Spot
origin = record { stop = 0; index = 0; order = Little; interfaces = [] }

-- where the split of a capture stops
unfoldable pub reached_in : ℕ → List ℕ → Reached
reached_in cpu bytes = split_from cpu origin [] (counted bytes)

-- the frames of a capture, each with the number of its CPU
abbrev pub frames_of : ℕ → List ℕ → List Frame
frames_of cpu bytes = (reached_in cpu bytes).frames

-- the place after the last block that was read
abbrev pub stop_of : List ℕ → ℕ
stop_of bytes = (reached_in 0 bytes).spot.stop

abbrev pub skips : Look → Bool
skips looks.Short = false
skips (looks.Bad error) = false
skips (looks.Headed head) = is_skipped head.kind

-- the bytes from the stop on are those of a block that is skipped, whose head is there
abbrev pub is_skipping : List ℕ → Bool
is_skipping bytes =
    skips (look_at (reached_in 0 bytes).spot.order (reached_in 0 bytes).spot.stop
    (reached_in 0 bytes).left)

abbrev pub too_large : List ℕ → Option BlockError
too_large bytes = if nat_lt 33554432 (length bytes) then Some TooLarge else None

-- the damage of a capture: the test that failed; otherwise that there are more bytes than count
abbrev pub damage_of : List ℕ → Option BlockError
damage_of bytes = option_or (reached_in 0 bytes).fault (too_large bytes)

abbrev pub cut_of : List ℕ → Option BlockError
cut_of bytes =
    if nat_lt (stop_of bytes) (length bytes) then Some (Truncated (stop_of bytes)) else None

-- how a capture ends: its damage, otherwise the place where it is cut, otherwise nothing
abbrev pub end_of : List ℕ → Option BlockError
end_of bytes = option_or (damage_of bytes) (cut_of bytes)
