-- What was read of a file of a CPU.
use Rattle.std.specs.Prelude.{◌≡◌, ℕ, ◌+◌, ◌-◌, ◌≤◌, List, length, is_some, if◌then◌else◌, Option}
use Rattle.capture_file.specs.Capture.{frames_of}
use Rattle.capture_file.specs.Decoders.{Represents}
use Rattle.capture_reading.specs.Sources.{GaveBy, GaveIfThere}
use Rattle.fanout_group.specs.Judgements.{AgreesAt, JudgeRules, rules_by}
use Rattle.fanout_group.specs.RulesOfJudging.{judge_rules_of}
use Rattle.fanout_group.specs.declared.judgements.ArrivalRules.{ArrivalRules}
use Rattle.frame_deals.specs.Dealings.{Dealing, after_frames}
use Rattle.frame_deals.specs.declared.files.FileReading.{FileReading}
use Rattle.frame_deals.specs.declared.files.FileSoFar.{FileSoFar}
use Rattle.tap_outside.specs.Seen.{SourceSeen}

-- the frames of these bytes were taken, whatever judge agrees with the rules at the CPU
abbrev pub TookFrames : ArrivalRules → List ℕ → Dealing → Dealing → Type 0
TookFrames rules bytes old new =
    (judge : JudgeRules)
    → AgreesAt old.cpu judge (judge_rules_of rules)
    → new ≡ after_frames (rules_by old.shape judge) rules.room (frames_of old.cpu bytes) old

-- a file was read: what its source gave, how it ended, and that its frames were taken
pub record HasReadFile (rules : ArrivalRules) (before now : Option SourceSeen)
    (old new : Dealing) (reading : FileReading) : Type 0 where
  -- the bytes that the source gave
  pub bytes : List ℕ
  pub gave : GaveIfThere before now bytes reading.end
  pub given : reading.given ≡ length bytes
  pub frames : reading.frames ≡ length (frames_of old.cpu bytes)
  pub arrivals : new.arrivals ≡ old.arrivals + reading.arrivals
  pub took : TookFrames rules bytes old new

-- ---- while it is read

-- the decoder was fed some bytes, and this is the number of their frames
pub record IsDecoding (number : ℕ) (so_far : FileSoFar) : Type 0 where
  pub bytes : List ℕ
  pub represents : Represents number so_far.decoder bytes
  pub frames_are : so_far.frames ≡ length (frames_of number bytes)

-- some bytes of a source were read: the decoder represents them, and their frames were taken
pub record IsFileSoFar (rules : ArrivalRules) (first now : SourceSeen) (old new : Dealing)
    (so_far : FileSoFar) : Type 0 where
  pub bytes : List ℕ
  pub represents : Represents old.cpu so_far.decoder bytes
  pub given_is : so_far.given ≡ length bytes
  pub frames_are : so_far.frames ≡ length (frames_of old.cpu bytes)
  pub gave : GaveBy first now bytes so_far.ended
  pub took : TookFrames rules bytes old new
  pub cpu_is : new.cpu ≡ old.cpu
  pub shape_is : new.shape ≡ old.shape
  pub arrivals : old.arrivals ≤ new.arrivals

-- a bound on the bytes still to be read, which falls with each read
abbrev pub unread : FileSoFar → ℕ
unread so_far = if is_some so_far.ended then 0 else 33554433 - so_far.given
