-- How a piece changes a decoder.
use Rattle.std.specs.Prelude.{◌≡◌, ℕ, Bool, true, false, List, ◌++◌, Option, None, Some}
use Rattle.capture_file.specs.Capture.{frames_of, damage_of}
use Rattle.capture_file.specs.Decoders.{DecoderValue, Represents}
use Rattle.capture_file.specs.declared.error.CaptureError.{CaptureError}
use Rattle.capture_file.specs.declared.error.CaptureError.TheVariants as errors
use Rattle.capture_file.specs.declared.cpu_end.CpuEnd.{CpuEnd}
use Rattle.capture_file.specs.declared.cpu_end.CpuEnd.TheVariants.{Damaged}
use Rattle.frame_view.specs.declared.frames.Frame.{Frame}

-- one more piece was fed: the decoder represents it too, its new frames are these, and this is the
-- damage
pub record Decodes (cpu : ℕ) (fed piece : List ℕ) (decoder : DecoderValue) (more : List Frame)
    (damage : Option CaptureError) : Type 0 where
  pub represents : Represents cpu decoder (fed ++ piece)
  pub frames : frames_of cpu (fed ++ piece) ≡ frames_of cpu fed ++ more
  pub damage_is : damage ≡ damage_of (fed ++ piece)

-- the same, with the new frames appended to others
pub record Appends (cpu : ℕ) (fed piece : List ℕ) (decoder : DecoderValue) (old new : List Frame)
    (damage : Option CaptureError) : Type 0 where
  pub more : List Frame
  pub new_is : new ≡ old ++ more
  pub decodes : Decodes cpu fed piece decoder more damage

-- an answer that says nothing about the capture
abbrev pub is_want : CaptureError → Bool
is_want errors.Memory = true
is_want error = false

-- how a source with this damage has ended: not yet, if there is none
abbrev pub ended_by : Option CaptureError → Option CpuEnd
ended_by None = None
ended_by (Some damage) = Some (Damaged damage)
