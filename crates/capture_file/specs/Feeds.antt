-- The outcome of reading bytes after a capture's header, for the steps of a feed.
use Rattle.std.specs.Prelude.{◌≡◌, ◌≢◌, ℕ, ◌+◌, ◌*◌, ◌≤◌, ◌<◌, Option, None, Some, Bool, true}
use Rattle.std.specs.Prelude.{false, nat_lt, if◌then◌else◌, MatchBool, ◌⊎◌, List, [], ◌++◌, length}
use Rattle.std.specs.Prelude.{take, drop, Result, Ok, Err}
use Rattle.std.specs.List.{concat}
use Rattle.frame_view.specs.declared.frames.Frame.{Frame}
use Rattle.capture_file.specs.declared.error.CaptureError.{CaptureError}
use Rattle.capture_file.specs.declared.error.CaptureError.TheVariants.{BadLength, Truncated}
use Rattle.capture_file.specs.declared.error.CaptureError.TheVariants.{TooLarge, Memory}
use Rattle.capture_file.specs.declared.format.Format.{Format}
use Rattle.pcapng_blocks.specs.declared.byte_order.Order.{Order}
use Rattle.capture_file.specs.declared.record_reader.Place.{Place}
use Rattle.capture_file.specs.declared.record_reader.Progress.{Progress}
use Rattle.capture_file.specs.declared.stage.Stage.{Stage}
use Rattle.capture_file.specs.declared.stage.Stage.TheVariants.{Header, Records, Damaged}
use Rattle.capture_file.specs.Pcap.{header_of, begins_whole, begins_oversized, record_size}
use Rattle.capture_file.specs.Pcap.{records_in, frames_from}

-- where reading stopped: the place, the frames so far, and the bytes from that place on
pub record Reached : Type 0 where
  pub next : Place
  pub frames : List Frame
  pub left : List ℕ

-- the bytes after the whole records at the start
unfoldable pub left_in : Order → List ℕ → List ℕ
left_in order bytes = drop (length (concat (records_in order bytes))) bytes

-- the place after a record
abbrev pub place_behind : Place → List ℕ → Place
place_behind next bytes = record { stop = next.stop + length bytes; index = next.index + 1 }

-- the bytes are a whole record and what is after it
pub record BeginsWith (order : Order) (bytes first behind : List ℕ) : Type 0 where
  pub whole : begins_whole order bytes ≡ true
  pub first_is : first ≡ take (record_size order bytes) bytes
  pub behind_is : behind ≡ drop (record_size order bytes) bytes

-- the frames of the whole records at the start are appended
unfoldable pub read_from : ℕ → Format → Place → List Frame → List ℕ → Reached
read_from cpu format next frames bytes = record {
  next = record {
    stop = next.stop + length (concat (records_in format.order bytes));
    index = next.index + length (records_in format.order bytes);
  };
  frames = frames ++ frames_from cpu format next.index (records_in format.order bytes);
  left = left_in format.order bytes;
}

-- what comes next at the place of these bytes: damage where they begin an oversized record
unfoldable pub stage_at : Format → ℕ → List ℕ → Stage
stage_at format stop left =
    if begins_oversized format.order left then Damaged (BadLength stop) else Records format

-- the bytes begin no record that can be recognised: neither a whole one nor an oversized one
pub record IsPart (order : Order) (bytes : List ℕ) : Type 0 where
  pub whole : begins_whole order bytes ≡ false
  pub oversized : begins_oversized order bytes ≡ false

-- the kept bytes were completed from the piece, of which `fresh` is left
pub record Completes (order : Order) (old new piece fresh : List ℕ) : Type 0 where
  -- they are a prefix of the old ones followed by the piece
  pub front : new ++ drop (length new) (old ++ piece) ≡ old ++ piece
  -- nothing is lost, unless an oversized record ends the reading
  pub rest : begins_oversized order new ≡ false → new ++ fresh ≡ old ++ piece
  -- a whole record has exactly its own bytes
  pub whole : begins_whole order new ≡ true → record_size order new ≡ length new
  -- if only a part of a record is there, the piece is used up
  pub part : begins_whole order new ≡ false → (fresh ≡ []) ⊎ (new ≡ [])

-- fresh bytes were read after kept ones, of which the first `read` had been read before
pub record IsRead (format : Format) (reached : Reached) (read : ℕ) (old : List ℕ)
    (progress : Progress) (new : List ℕ) (appended : List Frame) : Type 0 where
  pub next : progress.next ≡ reached.next
  pub frames : appended ≡ reached.frames
  pub kept : new ≡ old ++ reached.left
  pub stage : progress.stage ≡ stage_at format reached.next.stop (drop read new)
  pub cut : progress.cut ≡ read

-- a feed stopped where reading stopped, with these bytes kept and these frames
pub record Comes (format : Format) (reached : Reached) (progress : Progress) (kept : List ℕ)
    (appended : List Frame) : Type 0 where
  pub next : progress.next ≡ reached.next
  pub frames : appended ≡ reached.frames
  pub stage : progress.stage ≡ stage_at format reached.next.stop reached.left
  pub cut : progress.cut ≤ length kept
  pub left :
      begins_oversized format.order reached.left ≡ false → drop progress.cut kept ≡ reached.left

-- the place before all bytes, and the place after a header
abbrev pub start : Place
start = record { stop = 0; index = 0 }

abbrev pub first_place : Place
first_place = record { stop = 24; index = 0 }

-- a feed has read a whole header
abbrev pub ComesBehind :
    ℕ → Result Format CaptureError → List ℕ → Progress → List ℕ → List Frame → List Frame → Type 0
ComesBehind cpu (Err damage) bytes progress kept old new =
    (progress ≡ record { stage = Damaged damage; next = start; cut = 0 }) × (new ≡ old)
ComesBehind cpu (Ok format) bytes progress kept old new =
    Comes format (read_from cpu format first_place old (drop 24 bytes)) progress kept new

-- a feed has these bytes, which are all that was fed
abbrev pub Begins : ℕ → List ℕ → Progress → List ℕ → List Frame → List Frame → Type 0
Begins cpu bytes progress kept old new =
    MatchBool (nat_lt (length bytes) 24)
    ((progress ≡ record { stage = Header; next = start; cut = 0 }) × (kept ≡ bytes) × (new ≡ old))
    (ComesBehind cpu (header_of bytes) bytes progress kept old new)

-- a stage by its error, if it has one
abbrev pub error_of : Stage → Option CaptureError
error_of Header = None
error_of (Records format) = None
error_of (Damaged damage) = Some damage

-- the stage, given that bytes beyond those that count were fed
abbrev pub stage_with : Stage → Bool → Stage
stage_with Header beyond = if beyond then Damaged TooLarge else Header
stage_with (Records format) beyond = if beyond then Damaged TooLarge else Records format
stage_with (Damaged damage) beyond = Damaged damage

-- how a capture ends at a stage, where its last whole record ends at `stop`, given whether bytes
-- follow it
abbrev pub end_at : Stage → ℕ → Bool → Option CaptureError
end_at Header stop none_behind = Some (Truncated stop)
end_at (Records format) stop none_behind = if none_behind then None else Some (Truncated stop)
end_at (Damaged damage) stop none_behind = Some damage

-- which of these bytes a decoder at a stage may keep
abbrev pub kept_at : Stage → List ℕ → List ℕ
kept_at Header bytes = bytes
kept_at (Records format) bytes = bytes
kept_at (Damaged damage) bytes = []

-- the kept bytes aren't a whole header, or aren't a whole record; the damage is never `Memory`
abbrev pub IsSoundStage : Stage → List ℕ → Type 0
IsSoundStage Header bytes = length bytes < 24
IsSoundStage (Records format) bytes = IsPart format.order bytes
IsSoundStage (Damaged damage) bytes = (damage ≢ Memory) × (bytes ≡ [])

-- a decoder's place is within the bytes that count, and each record before it has at least 16
pub record IsSoundAt (stage : Stage) (next : Place) (bytes : List ℕ) : Type 0 where
  pub bound : next.stop + length bytes ≤ 33554432
  pub count : 16 * next.index ≤ next.stop
  pub told : IsSoundStage stage bytes

-- the outcome of a feed of bytes at a stage
abbrev pub Feeds : ℕ → Stage → Place → List ℕ → Progress → List ℕ → List Frame → List Frame → Type 0
Feeds cpu Header next bytes progress kept old new = Begins cpu bytes progress kept old new
Feeds cpu (Records format) next bytes progress kept old new =
    Comes format (read_from cpu format next old bytes) progress kept new
Feeds cpu (Damaged damage) next bytes progress kept old new =
    (progress ≡ record { stage = Damaged damage; next = next; cut = 0 }) × (new ≡ old)
