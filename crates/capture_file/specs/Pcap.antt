-- What a pcap capture of version 2.4 says, over the whole list of its bytes. Places are counted in
-- bytes from 0.
use Rattle.std.specs.Prelude.{ℕ, zero, suc, ◌+◌, ◌*◌, ◌%◌, Bool, ◌&&◌, ◌==◌, nat_le, nat_lt, min}
use Rattle.std.specs.Prelude.{max, if◌then◌else◌, List, [], ◌∷◌, length, take, drop, Option, None}
use Rattle.std.specs.Prelude.{Some, Result, Ok, Err, option_map}
use Rattle.std.specs.Option.{option_or}
use Rattle.std.specs.List.{concat}
use Rattle.pcapng_blocks.specs.Numbers.{number_at}
use Rattle.frame_view.specs.declared.frames.Frame.{Frame}
use Rattle.capture_file.specs.declared.error.CaptureError.{CaptureError}
use Rattle.capture_file.specs.declared.error.CaptureError.TheVariants.{BadMagic, BadVersion}
use Rattle.capture_file.specs.declared.error.CaptureError.TheVariants.{BadLink, BadLength}
use Rattle.capture_file.specs.declared.error.CaptureError.TheVariants.{Truncated, TooLarge}
use Rattle.capture_file.specs.declared.format.Format.{Format}
use Rattle.pcapng_blocks.specs.declared.byte_order.Order.{Order}
use Rattle.pcapng_blocks.specs.declared.byte_order.Order.TheVariants.{Little, Big}

-- the nanoseconds of one unit of a fraction of a second, by the magic: microseconds or nanoseconds
abbrev pub unit_of : ℕ → Option ℕ
unit_of magic =
    if magic == 0xa1b2c3d4 then Some 1000 else if magic == 0xa1b23c4d then Some 1 else None

-- the format of a magic number that is in this byte order
abbrev pub format_in : Order → List ℕ → Option Format
format_in order bytes =
    option_map (λ unit. record { order = order; unit = unit }) (unit_of (number_at order 4 0 bytes))

-- the version is 2.4, and the low 16 bits of the link field mean Ethernet
abbrev pub checked : Option Format → List ℕ → Result Format CaptureError
checked None bytes = Err BadMagic
checked (Some format) bytes =
    if (number_at format.order 2 4 bytes == 2) && (number_at format.order 2 6 bytes == 4)
    then (if number_at format.order 4 20 bytes % 65536 == 1 then Ok format
    else Err (BadLink (number_at format.order 4 20 bytes)))
    else Err BadVersion

-- what the 24 bytes of a header say; the magic is read in either byte order and gives that of all
-- other fields
unfoldable pub header_of : List ℕ → Result Format CaptureError
header_of bytes = checked (option_or (format_in Little bytes) (format_in Big bytes)) bytes

-- the number of captured bytes that a record's header says (incl_len)
abbrev pub captured : Order → List ℕ → ℕ
captured order record_bytes = number_at order 4 8 record_bytes

-- the number of bytes of a record: its header of 16 and what was captured
abbrev pub record_size : Order → List ℕ → ℕ
record_size order record_bytes = 16 + captured order record_bytes

-- the bytes begin with a whole record of at most 262,144 captured bytes
unfoldable pub begins_whole : Order → List ℕ → Bool
begins_whole order bytes =
    nat_le 16 (length bytes)
    && (nat_le (captured order bytes) 262144 && nat_le (record_size order bytes) (length bytes))

-- the bytes begin with the header of a record of more than 262,144 captured bytes
unfoldable pub begins_oversized : Order → List ℕ → Bool
begins_oversized order bytes = nat_le 16 (length bytes) && nat_lt 262144 (captured order bytes)

-- the whole records at the start, at most n
unfoldable pub records_within : ℕ → Order → List ℕ → List (List ℕ)
records_within zero order bytes = []
records_within (suc most) order bytes =
    if begins_whole order bytes
    then take (record_size order bytes) bytes
    ∷ records_within most order (drop (record_size order bytes) bytes)
    else []

-- the bytes split from the start into records, up to the first that isn't whole or is oversized
unfoldable pub records_in : Order → List ℕ → List (List ℕ)
records_in order bytes = records_within (length bytes) order bytes

-- the frame of a record; a fraction of a second or more counts as 999,999,999 nanoseconds
unfoldable pub frame_of_record : ℕ → Format → ℕ → List ℕ → Frame
frame_of_record cpu format index bytes = record {
  cpu = cpu;
  index = index;
  sec = number_at format.order 4 0 bytes;
  nsec = min 999999999 (number_at format.order 4 4 bytes * format.unit);
  wire = max (captured format.order bytes) (number_at format.order 4 12 bytes);
  bytes = drop 16 bytes;
  tag = None;
}

-- the frames of records, numbered from `index`
abbrev pub frames_from : ℕ → Format → ℕ → List (List ℕ) → List Frame
frames_from cpu format index [] = []
frames_from cpu format index (bytes ∷ records) =
    frame_of_record cpu format index bytes ∷ frames_from cpu format (index + 1) records

-- the bytes that count: at most the first 33,554,432
abbrev pub counted : List ℕ → List ℕ
counted bytes = take 33554432 bytes

-- the whole records after a header that passed its tests
abbrev pub records_behind : Result Format CaptureError → List ℕ → List (List ℕ)
records_behind (Err damage) bytes = []
records_behind (Ok format) bytes = records_in format.order (drop 24 (counted bytes))

abbrev pub frames_behind : ℕ → Result Format CaptureError → List (List ℕ) → List Frame
frames_behind cpu (Err damage) records = []
frames_behind cpu (Ok format) records = frames_from cpu format 0 records

-- the frames of a capture, each with the number of its CPU
unfoldable pub frames_of : ℕ → List ℕ → List Frame
frames_of cpu bytes =
    if nat_lt (length bytes) 24 then []
    else frames_behind cpu (header_of bytes) (records_behind (header_of bytes) bytes)

abbrev pub stop_behind : Result Format CaptureError → List ℕ → ℕ
stop_behind (Err damage) bytes = 0
stop_behind (Ok format) bytes = 24 + length (concat (records_behind (Ok format) bytes))

-- the place after the last whole record
unfoldable pub stop_of : List ℕ → ℕ
stop_of bytes = if nat_lt (length bytes) 24 then 0 else stop_behind (header_of bytes) bytes

-- an oversized record at the stop; otherwise that there are more bytes than count
abbrev pub damage_behind : Result Format CaptureError → ℕ → List ℕ → Option CaptureError
damage_behind (Err damage) stop bytes = Some damage
damage_behind (Ok format) stop bytes =
    if begins_oversized format.order (drop stop (counted bytes)) then Some (BadLength stop)
    else if nat_lt 33554432 (length bytes) then Some TooLarge
    else None

-- the damage of a capture; one that is shorter than a header has none
unfoldable pub damage_of : List ℕ → Option CaptureError
damage_of bytes =
    if nat_lt (length bytes) 24 then None else damage_behind (header_of bytes) (stop_of bytes) bytes

abbrev pub cut_of : List ℕ → Option CaptureError
cut_of bytes =
    if nat_lt (length bytes) 24 then Some (Truncated 0)
    else if nat_lt (stop_of bytes) (length bytes) then Some (Truncated (stop_of bytes))
    else None

-- how a capture ends: its damage, otherwise the place where it is cut, otherwise nothing
unfoldable pub end_of : List ℕ → Option CaptureError
end_of bytes = option_or (damage_of bytes) (cut_of bytes)
