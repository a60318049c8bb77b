-- The fragments of one datagram: what they cover, and the frame that they make. Places are in
-- bytes, from 0.
use Rattle.std.specs.Prelude.{ℕ, zero, suc, ◌+◌, ◌-◌, ◌*◌, ◌/◌, Bool, ◌&&◌, List, [], ◌∷◌, ◌++◌}
use Rattle.std.specs.Prelude.{length, map, take, drop, find, slice_index, nat_lt, nat_le, ◌==◌}
use Rattle.std.specs.Prelude.{if◌then◌else◌, Option, None, Some, option_map}
use Rattle.std.specs.List.{list_any, list_all}
use Rattle.std.specs.Int.{to_be_bytes, w16}
use Rattle.frame_view.specs.Numbers.{u16_at}
use Rattle.frame_view.specs.InternetChecksum.{checksum_of}
use Rattle.frame_view.specs.declared.frames.Frame.{Frame}
use Rattle.ip_defrag.specs.Fragments.{from_of, to_of, is_last, data_of, headers_length}

-- some places, one after another
abbrev pub places : ℕ → ℕ → List ℕ
places from zero = []
places from (suc count) = from ∷ places (from + 1) count

-- whether a place is in a frame's data
abbrev pub covers : Frame → ℕ → Bool
covers frame place = nat_le (from_of frame) place && nat_lt place (to_of frame)

-- whether a place is in one of some frames
abbrev pub is_covered : List Frame → ℕ → Bool
is_covered frames place = list_any (λ frame. covers frame place) frames

-- whether two frames share a byte place
unfoldable pub shares : Frame → Frame → Bool
shares frame other = list_any (covers other) (places (from_of frame) (to_of frame - from_of frame))

-- a frame's byte at a place
abbrev pub own_byte : Frame → ℕ → ℕ
own_byte frame place = slice_index (data_of frame) (place - from_of frame)

-- the byte at a place, in the frame that has the place
abbrev pub byte_at : List Frame → ℕ → ℕ
byte_at [] place = 0
byte_at (frame ∷ frames) place =
    if covers frame place then own_byte frame place else byte_at frames place

-- the data of a datagram of some length
unfoldable pub data_from : List Frame → ℕ → List ℕ
data_from frames end = map (byte_at frames) (places 0 end)

-- a number written over the two bytes at a place, the high byte first
abbrev pub put_u16 : ℕ → ℕ → List ℕ → List ℕ
put_u16 at number bytes = take at bytes ++ (to_be_bytes w16 number ++ drop (at + 2) bytes)

-- the headers with the total length set, the more bit and the offset 0, the other two flag bits
-- kept, and no checksum
abbrev pub unsummed : List ℕ → ℕ → List ℕ
unsummed headers end =
    put_u16 24 0
    (put_u16 20 (u16_at 20 headers / 0x4000 * 0x4000)
    (put_u16 16 (length headers - 14 + end) headers))

-- the same with the checksum of that IPv4 header
abbrev pub summed : List ℕ → List ℕ
summed headers = put_u16 24 (checksum_of (drop 14 headers)) headers

-- the headers of a datagram with some length of data: those of its fragment at place 0, made its
-- own
unfoldable pub headers_from : Frame → ℕ → List ℕ
headers_from first end = summed (unsummed (take (headers_length first) first.bytes) end)

-- the bytes of a datagram's frame
abbrev pub bytes_from : Frame → ℕ → List Frame → List ℕ
bytes_from first end frames = headers_from first end ++ data_from frames end

-- some bytes as a frame: CPU, index and time of the frame that completed the datagram, the tag of
-- its first one
abbrev pub framed : Frame → Frame → List ℕ → Frame
framed newest first bytes = record newest { wire = length bytes; bytes = bytes; tag = first.tag }

-- the frame of a datagram
unfoldable pub datagram_from : Frame → ℕ → List Frame → Frame → Frame
datagram_from first end frames newest = framed newest first (bytes_from first end frames)

-- whether a frame's data begins its datagram
abbrev pub is_first : Frame → Bool
is_first frame = from_of frame == 0

-- whether every place below an end is in one of the frames
unfoldable pub covers_all : List Frame → ℕ → Bool
covers_all frames end = list_all (is_covered frames) (places 0 end)

-- with a last fragment whose end is known
abbrev pub completed_at : Option Frame → List Frame → Frame → Option Frame
completed_at None frames newest = None
completed_at (Some last) frames newest =
    if covers_all frames (to_of last)
    then option_map (λ first. datagram_from first (to_of last) frames newest) (find is_first frames)
    else None

-- the datagram of a name's frames, if one is last and every place below its end is in one of them
unfoldable pub completed : List Frame → Frame → Option Frame
completed frames newest = completed_at (find is_last frames) frames newest
