-- What was read of a capture.
use Rattle.std.specs.Prelude.{◌≡◌, ℕ, ◌-◌, List, length, is_some, if◌then◌else◌, ⊤, Option, None}
use Rattle.std.specs.Prelude.{Some}
use Rattle.capture_file.specs.Capture.{frames_of}
use Rattle.capture_file.specs.Decoders.{Represents}
use Rattle.tap_outside.specs.Seen.{SourceSeen}
use Rattle.capture_reading.specs.Sources.{GaveBy, GaveIfThere}
use Rattle.capture_reading.specs.declared.partial_capture.PartialCapture.{PartialCapture}
use Rattle.capture_reading.specs.declared.whole.Reading.{Reading}

-- a capture was read: what its source gave, and the frames of that
pub record IsReading (cpu : ℕ) (old new : Option SourceSeen) (reading : Reading) : Type 0 where
  -- the bytes that the source gave
  pub bytes : List ℕ
  pub gave : GaveIfThere old new bytes reading.end
  pub frames : reading.frames ≡ frames_of cpu bytes
  pub given : reading.given ≡ length bytes

-- a source is still there if one was, and no read of it failed
abbrev pub IsStillThere : Option SourceSeen → Option SourceSeen → Type 0
IsStillThere None None = ⊤
IsStillThere (Some old) (Some new) = new.faults ≡ old.faults
IsStillThere old new = ⊥

-- ---- while it is read

-- some bytes of a source were read: the decoder represents them, and these are their frames and
-- their number
pub record IsSoFar (cpu : ℕ) (old new : SourceSeen)
    (partial_capture : PartialCapture) : Type 0 where
  pub bytes : List ℕ
  pub represents : Represents cpu partial_capture.decoder bytes
  pub frames_are : partial_capture.frames ≡ frames_of cpu bytes
  pub given_is : partial_capture.given ≡ length bytes
  pub gave : GaveBy old new bytes partial_capture.ended

-- a bound on the bytes still to be read, which falls with each read
abbrev pub unread : PartialCapture → ℕ
unread partial_capture = if is_some partial_capture.ended then 0 else 33554433
    - partial_capture.given
