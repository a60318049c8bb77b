-- Which rings are valid, and what follows from the request. Sizes and places are in bytes.
use Rattle.std.specs.Prelude.{◌≡◌, ℕ, ◌+◌, ◌-◌, ◌*◌, ◌/◌, ◌%◌, ◌<◌, ◌≤◌, Bool, ◌&&◌, ◌||◌, not}
use Rattle.std.specs.Prelude.{nat_lt, ◌==◌, if◌then◌else◌, List, [], ◌∷◌, Option, None, Some}
use Rattle.std.specs.Prelude.{Result, Ok, Err}
use Rattle.std.specs.Option.{option_or}
use Rattle.ring_model.specs.Ring.{Size}
use Rattle.tp_layout.specs.declared.requests.RingRequest.{RingRequest}
use Rattle.tp_layout.specs.declared.error.RequestError.{RequestError}
use Rattle.tp_layout.specs.declared.error.RequestError.TheVariants.{BlockSize, BlockCount, Private}
use Rattle.tp_layout.specs.declared.error.RequestError.TheVariants.{FrameSmall, FrameAlign}
use Rattle.tp_layout.specs.declared.error.RequestError.TheVariants.{FrameCount, Feature, Transmit}
use Rattle.tp_layout.specs.declared.error.RequestError.TheVariants.{Slots}

-- how many frames fit into all blocks
abbrev pub frames_in : RingRequest → ℕ
frames_in request = request.block_size / request.frame_size * request.block_nr

-- the first test of a receive ring that fails
unfoldable pub receive_fault : RingRequest → Option RequestError
receive_fault request =
    if (request.block_size == 0)
    || not (request.block_size % 4096 == 0)
    || nat_lt 1048576 request.block_size
    then Some BlockSize
    else if nat_lt request.block_nr 2
    || nat_lt 256 request.block_nr
    || nat_lt 67108864 (request.block_size * request.block_nr)
    then Some BlockCount
    else if nat_lt 1024 request.sizeof_priv then Some Private
    else if nat_lt request.frame_size 68 then Some FrameSmall
    else if not (request.frame_size % 16 == 0) then Some FrameAlign
    else if (request.block_size / request.frame_size == 0)
    || not (frames_in request == request.frame_nr)
    then Some FrameCount
    else if nat_lt 1 request.features then Some Feature
    else None

-- the first test of a transmit ring that fails: it has neither a time-out nor a private area nor a
-- feature
unfoldable pub transmit_fault : RingRequest → Option RequestError
transmit_fault request = option_or (receive_fault request)
    (if (request.tov == 0) && (request.sizeof_priv == 0) && (request.features == 0) then None
    else Some Transmit)

-- the first test of a TPACKET_V2 ring that fails: it has at most 65,536 slots
unfoldable pub slot_fault : RingRequest → Option RequestError
slot_fault request =
    option_or (transmit_fault request) (if nat_lt 65536 request.frame_nr then Some Slots else None)

-- the shape of a request without a fault
abbrev pub answer_of : RingRequest → Option RequestError → Result RingRequest RequestError
answer_of request None = Ok request
answer_of request (Some fault) = Err fault

-- what holds of each shape: whole pages, at most 1 MiB a block and 64 MiB in all, a private area of
-- at most 1 KiB
pub record IsShape (shape : RingRequest) : Type 0 where
  pub some : 0 < shape.block_size
  pub pages : shape.block_size % 4096 ≡ 0
  pub small : shape.block_size ≤ 1048576
  pub two : 2 ≤ shape.block_nr
  pub few : shape.block_nr ≤ 256
  pub all : shape.block_size * shape.block_nr ≤ 67108864
  pub private : shape.sizeof_priv ≤ 1024
  pub least : 68 ≤ shape.frame_size
  pub aligned : shape.frame_size % 16 ≡ 0
  pub frames : frames_in shape ≡ shape.frame_nr
  pub features : shape.features ≤ 1

-- the place of a block's first packet: after the descriptor of 48 bytes and the private area,
-- rounded up to 8
abbrev pub first_of : RingRequest → ℕ
first_of shape = 48 + (shape.sizeof_priv + 7) / 8 * 8

-- the bytes of a block that are for packets
abbrev pub room_of : RingRequest → ℕ
room_of shape = shape.block_size - first_of shape

-- the time-out of a block in milliseconds, 8 if none is asked for
abbrev pub time_out_of : RingRequest → ℕ
time_out_of shape = if shape.tov == 0 then 8 else shape.tov

-- whether a packet has the hash of its flow
abbrev pub fills_hash : RingRequest → Bool
fills_hash shape = shape.features == 1

-- the size of a ring of this shape, as notes see it
abbrev pub size_of : RingRequest → Size
size_of shape = record { room = room_of shape; blocks = shape.block_nr; tov = time_out_of shape }

-- the shape as plain numbers, which distinguish it from every other
abbrev pub numbers_of : RingRequest → List ℕ
numbers_of shape =
    shape.block_size ∷ shape.block_nr ∷ shape.frame_size ∷ shape.frame_nr ∷ shape.tov
    ∷ shape.sizeof_priv ∷ shape.features ∷ []
