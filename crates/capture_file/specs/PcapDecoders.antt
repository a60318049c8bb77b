-- What a decoder of pcap represents: the bytes that it was fed.
use Rattle.std.specs.Result.{result_err}
use Rattle.std.specs.Prelude.{◌≡◌, ℕ, nat_lt, if◌then◌else◌, List, [], ◌++◌, length, drop, Option}
use Rattle.std.specs.Prelude.{None, Some, Result, Ok, Err}
use Rattle.frame_view.specs.declared.frames.Frame.{Frame}
use Rattle.capture_file.specs.declared.error.CaptureError.{CaptureError}
use Rattle.capture_file.specs.declared.format.Format.{Format}
use Rattle.capture_file.specs.declared.pcap_decoder.PcapDecoder.TheInside.{Inside}
use Rattle.capture_file.specs.declared.stage.Stage.{Stage}
use Rattle.capture_file.specs.declared.stage.Stage.TheVariants.{Header, Records, Damaged}
use Rattle.capture_file.specs.Feeds.{IsSoundAt}
use Rattle.capture_file.specs.Pcap.{frames_of, damage_of, end_of, stop_of, header_of}

-- A decoder: its CPU, what comes next, the place where its kept bytes begin, the number of the next
-- frame, and the kept bytes
pub record PcapValue : Type 0 where
  pub cpu : ℕ
  pub stage : Stage
  pub stop : ℕ
  pub index : ℕ
  pub rest : List ℕ

abbrev pub pcap_value : Inside → PcapValue
pcap_value d = record {
  cpu = d.cpu;
  stage = d.stage;
  stop = d.next.stop;
  index = d.next.index;
  rest = d.kept.items;
}

abbrev pub IsSound : Inside → Type 0
IsSound d = IsSoundAt d.stage d.next d.kept.items

-- what comes after a header that is whole
abbrev pub stage_behind : Result Format CaptureError → Stage
stage_behind (Ok format) = Records format
stage_behind (Err damage) = Damaged damage

abbrev pub stage_by : Option CaptureError → List ℕ → Stage
stage_by (Some damage) bytes = Damaged damage
stage_by None bytes = if nat_lt (length bytes) 24 then Header else stage_behind (header_of bytes)

-- what comes next after these bytes
abbrev pub stage_of : List ℕ → Stage
stage_of bytes = stage_by (damage_of bytes) bytes

abbrev pub kept_by : Option CaptureError → List ℕ → List ℕ
kept_by (Some damage) bytes = []
kept_by None bytes = drop (stop_of bytes) bytes

-- the bytes that are kept: those from the stop on, none after damage
abbrev pub kept_of : List ℕ → List ℕ
kept_of bytes = kept_by (damage_of bytes) bytes

-- the decoder represents the bytes that it was fed
pub record Represents (number : ℕ) (decoder : PcapValue) (fed : List ℕ) : Type 0 where
  pub cpu : decoder.cpu ≡ number
  pub stage : decoder.stage ≡ stage_of fed
  pub stop : decoder.stop ≡ stop_of fed
  pub index : decoder.index ≡ length (frames_of number fed)
  pub rest : decoder.rest ≡ kept_of fed

-- what represented some bytes before a feed represents them and the piece after it
abbrev pub RepresentsMore : PcapValue → PcapValue → List ℕ → Type 0
RepresentsMore old new piece =
    (cpu : ℕ) (fed : List ℕ) → Represents cpu old fed → Represents cpu new (fed ++ piece)

-- a feed appended the frames that are new with the piece
abbrev pub AppendsNew : PcapValue → List ℕ → List Frame → List Frame → Type 0
AppendsNew decoder piece before after =
    (cpu : ℕ) (fed : List ℕ) → Represents cpu decoder fed
    → (more : List Frame)
    × (after ≡ before ++ more)
    × (frames_of cpu (fed ++ piece) ≡ frames_of cpu fed ++ more)

-- a feed returned the damage of all bytes that were fed, the piece included
abbrev pub IsDamage : PcapValue → List ℕ → Option CaptureError → Type 0
IsDamage decoder piece damage =
    (cpu : ℕ) (fed : List ℕ) → Represents cpu decoder fed → damage ≡ damage_of (fed ++ piece)

-- the answer is the end of all bytes that were fed
abbrev pub AnswersEnd : {X : Type 0} → PcapValue → Result X CaptureError → Type 0
AnswersEnd decoder answer =
    (cpu : ℕ) (fed : List ℕ) → Represents cpu decoder fed → result_err answer ≡ end_of fed

-- the number of bytes that are kept of those that were fed
abbrev pub CountsKept : PcapValue → ℕ → Type 0
CountsKept decoder count =
    (cpu : ℕ) (fed : List ℕ) → Represents cpu decoder fed → count ≡ length (kept_of fed)
