-- A CPU whose source is read a piece at a time, and what arrives with the frames that it hasn't fed
-- yet.
use Rattle.std.specs.Prelude.{◌≡◌, ◌≢◌, ℕ, Bool, true, false, ◌+◌, ◌-◌, ◌<◌, ◌≤◌, List, [], ◌∷◌}
use Rattle.std.specs.Prelude.{◌++◌, length, drop, slice_get, is_some, if◌then◌else◌, Option, None}
use Rattle.std.specs.Prelude.{Some, IsSome}
use Rattle.capture_file.specs.Capture.{damage_of, frames_of}
use Rattle.capture_file.specs.Decoders.{DecoderValue, Represents}
use Rattle.fanout_group.specs.Arrivals.{arrivals_from}
use Rattle.fanout_group.specs.Paths.{Path}
use Rattle.fanout_group.specs.Plans.{has_defrag}
use Rattle.capture_file.specs.declared.cpu_end.CpuEnd.{CpuEnd}
use Rattle.capture_file.specs.declared.cpu_end.CpuEnd.TheVariants.{Fault}
use Rattle.fanout_group.specs.declared.runs.CpuLog.{CpuLog}
use Rattle.frame_view.specs.declared.frames.Frame.{Frame}
use Rattle.capture_reading.specs.Sources.{GaveIfThere, Giving}
use Rattle.tap_outside.specs.Seen.{SourceSeen}

pub record Feeding : Type 0 where
  -- its number, from 0
  pub number : ℕ
  -- its source as it was handed in
  pub first : Option SourceSeen
  -- the bytes that the source gave so far
  pub bytes : List ℕ
  -- how the source ended, once it did
  pub ended : Option CpuEnd
  -- how many of their frames were fed
  pub fed : ℕ
  pub path : Path

-- the frames of the bytes so far
abbrev pub frames_in : Feeding → List Frame
frames_in cpu = frames_of cpu.number cpu.bytes

-- all frames of a source begin with those of its bytes so far, and are these once it has ended
abbrev pub IsAllOf : List Frame → List Frame → Option CpuEnd → Type 0
IsAllOf all frames ended = (rest : List Frame) × (all ≡ frames ++ rest) × (IsSome ended → rest ≡ [])

abbrev pub IsAllOfCpu : List Frame → Feeding → Type 0
IsAllOfCpu all cpu = IsAllOf all (frames_in cpu) cpu.ended

-- what arrives with each frame that isn't fed yet, given all frames
abbrev pub waiting_of : List Frame → Feeding → List (Option Frame)
waiting_of all cpu =
    arrivals_from (has_defrag cpu.path.shape.flags) cpu.path.held (drop cpu.fed all)

-- ---- what is known of its source

-- the decoder has decoded the bytes so far, and the frames wait that weren't fed
pub record IsFed (number : ℕ) (first now : Option SourceSeen) (bytes : List ℕ)
    (ended : Option CpuEnd) (fed given : ℕ) (decoder : DecoderValue)
    (waiting : List Frame) : Type 0 where
  pub represents : Represents number decoder bytes
  pub waiting_is : waiting ≡ drop fed (frames_of number bytes)
  pub within : fed ≤ length (frames_of number bytes)
  pub given_is : given ≡ length bytes
  pub giving : Giving first now bytes ended
  pub sound : ended ≡ None → damage_of bytes ≡ None

-- no read failed since the source was handed in
abbrev pub HasNoFault : Option SourceSeen → Option SourceSeen → Type 0
HasNoFault None None = Unit {0}
HasNoFault (Some first) (Some now) = now.faults ≡ first.faults
HasNoFault first now = ⊥

-- the frames of a piece were lost, because memory ran out: the source hadn't ended, no read had
-- failed, and every frame before the piece was fed
pub record IsStuck (number : ℕ) (first now : Option SourceSeen) (bytes : List ℕ)
    (ended : Option CpuEnd) (fed : ℕ) : Type 0 where
  pub unended : ended ≡ None
  pub all : length (frames_of number bytes) ≤ fed
  pub faultless : HasNoFault first now

-- what is known of the source, whether a piece was lost or not
pub record IsKnown (stuck : Bool) (number : ℕ) (first now : Option SourceSeen) (bytes : List ℕ)
    (ended : Option CpuEnd) (fed given : ℕ) (decoder : DecoderValue)
    (waiting : List Frame) : Type 0 where
  pub whole : stuck ≡ false → IsFed number first now bytes ended fed given decoder waiting
  pub lost : stuck ≡ true → IsStuck number first now bytes ended fed

-- ---- the steps

-- more was read: nothing was fed, and all frames as known now are those known before
pub record HasRead (old new : Feeding) : Type 0 where
  pub rest_is : new ≡ record old { bytes = new.bytes; ended = new.ended }
  pub all : (all : List Frame) → IsAllOfCpu all new → IsAllOfCpu all old

-- a frame waits
abbrev pub Waits : Feeding → Type 0
Waits cpu = cpu.fed < length (frames_in cpu)

-- a frame waits, or the source has ended
abbrev pub IsReady : Feeding → Type 0
IsReady cpu = cpu.ended ≡ None → Waits cpu

-- if a frame waited nothing was read
abbrev pub ReadsWhereNoneWaits : Feeding → Feeding → Type 0
ReadsWhereNoneWaits old new = Waits old → new.bytes ≡ old.bytes

-- the CPU after the frame that is fed next, if there is one
abbrev pub behind : Option Frame → Feeding → Feeding
behind None cpu = cpu
behind (Some frame) cpu = record cpu { fed = cpu.fed + 1 }

-- no read failed, unless one had failed before
abbrev pub HasNotFailed : Feeding → Feeding → Type 0
HasNotFailed old new = old.ended ≢ Some Fault → new.ended ≢ Some Fault

-- if a read has failed, all frames before it were fed
abbrev pub FailsFed : Feeding → Type 0
FailsFed cpu = cpu.ended ≡ Some Fault → length (frames_in cpu) ≤ cpu.fed

-- the next frame is fed
pub record Pops (old : Feeding) (frame : Option Frame) (new : Feeding) : Type 0 where
  pub frame_is : frame ≡ slice_get (frames_in old) old.fed
  pub new_is : new ≡ behind frame old

-- a CPU of the same number and the same source, in a group of the same shape
pub record IsSameCpu (old new : Feeding) : Type 0 where
  pub number : new.number ≡ old.number
  pub first : new.first ≡ old.first
  pub shape : new.path.shape ≡ old.path.shape

-- what arrives with the next frame
abbrev pub next_of : List (Option Frame) → Option Frame
next_of [] = None
next_of (arrival ∷ waiting) = arrival

-- the next of all frames is taken, and this arrives with it
pub record Takes (all : List Frame) (old : Feeding) (arrival : Option Frame)
    (new : Feeding) : Type 0 where
  pub before : IsAllOfCpu all old
  pub waiting_is : waiting_of all new ≡ drop 1 (waiting_of all old)
  pub path_is : new.path ≡ record old.path { held = new.path.held }
  pub arrival_is : arrival ≡ next_of (waiting_of all old)

-- a bound on the bytes still to be read, which falls with each read
abbrev pub unread : Feeding → ℕ
unread cpu = if is_some cpu.ended then 0 else 33554433 - length cpu.bytes

-- what is left of a CPU once it is closed: its source, and its log
pub record Closes (cpu : Feeding) (now : Option SourceSeen) (log : CpuLog) : Type 0 where
  pub gave : GaveIfThere cpu.first now cpu.bytes log.end
  pub log_is : log ≡ record {
    frames = length (frames_in cpu);
    given = length cpu.bytes;
    end = log.end;
    arrivals = cpu.path.log;
  }
