-- What a decoder represents: the bytes that it was fed.
use Rattle.std.specs.Result.{result_err}
use Rattle.std.specs.Prelude.{◌≡◌, ℕ, ◌+◌, ◌≤◌, ◌<◌, IsTrue, IsSome, Bool, true, false}
use Rattle.std.specs.Prelude.{if◌then◌else◌, List, [], ◌++◌, length, Option, None, Some, option_map}
use Rattle.std.specs.Prelude.{Result, Ok, Err, ⊤}
use Rattle.frame_view.specs.declared.frames.Frame.{Frame}
use Rattle.pcapng_blocks.specs.Capture as pcapng
use Rattle.pcapng_blocks.specs.Decoders as blocks
use Rattle.capture_file.specs.declared.error.CaptureError.{CaptureError}
use Rattle.capture_file.specs.declared.error.CaptureError.TheVariants as errors
use Rattle.capture_file.specs.declared.format_decoder.FormatDecoder.{FormatDecoder}
use Rattle.capture_file.specs.declared.format_decoder.FormatDecoder.TheVariants.{Pcap, Pcapng}
use Rattle.capture_file.specs.declared.decoder.Decoder.TheInside.{Inside}
use Rattle.capture_file.specs.Pcap as pcap
use Rattle.capture_file.specs.PcapDecoders as records
use Rattle.capture_file.specs.Capture.{is_pcapng, error_from, frames_of, stop_of, damage_of, end_of}
use Rattle.capture_file.specs.Capture.{is_skipping}

-- ---- bytes read in one of the formats, whatever they begin with: as pcapng, or as pcap

abbrev pub frames_as : Bool → ℕ → List ℕ → List Frame
frames_as is_blocks cpu bytes =
    if is_blocks then pcapng.frames_of cpu bytes else pcap.frames_of cpu bytes

abbrev pub damage_as : Bool → List ℕ → Option CaptureError
damage_as is_blocks bytes =
    if is_blocks then option_map error_from (pcapng.damage_of bytes) else pcap.damage_of bytes

abbrev pub end_as : Bool → List ℕ → Option CaptureError
end_as is_blocks bytes =
    if is_blocks then option_map error_from (pcapng.end_of bytes) else pcap.end_of bytes

abbrev pub kept_as : Bool → List ℕ → List ℕ
kept_as is_blocks bytes = if is_blocks then blocks.kept_of bytes else records.kept_of bytes

-- ---- a decoder of one format

abbrev pub reads_blocks : FormatDecoder → Bool
reads_blocks (Pcap decoder) = false
reads_blocks (Pcapng decoder) = true

-- the decoder represents the bytes that it was fed
abbrev pub RepresentsAs : ℕ → FormatDecoder → List ℕ → Type 0
RepresentsAs cpu (Pcap decoder) fed = records.Represents cpu decoder fed
RepresentsAs cpu (Pcapng decoder) fed = blocks.Represents cpu decoder fed

-- a feed of a decoder that represented these bytes: it represents the piece too, and its frames and
-- its damage are reported
pub record FeedsAs (old : FormatDecoder) (piece : List ℕ) (damage : Option CaptureError)
    (new : FormatDecoder) (before after : List Frame) (cpu : ℕ) (fed : List ℕ) : Type 0 where
  pub represents : RepresentsAs cpu new (fed ++ piece)
  pub frames :
      (more : List Frame)
      × (after ≡ before ++ more)
      × (frames_as (reads_blocks old) cpu (fed ++ piece)
      ≡ frames_as (reads_blocks old) cpu fed ++ more)
  pub damage_is : damage ≡ damage_as (reads_blocks old) (fed ++ piece)

abbrev pub FeedsFrom :
    FormatDecoder → List ℕ → Option CaptureError → FormatDecoder → List Frame → List Frame → Type 0
FeedsFrom old piece damage new before after =
    (cpu : ℕ) (fed : List ℕ) → RepresentsAs cpu old fed
    → FeedsAs old piece damage new before after cpu fed

abbrev pub EndsAs : FormatDecoder → Result Unit CaptureError → Type 0
EndsAs decoder answer =
    (cpu : ℕ) (fed : List ℕ)
    → RepresentsAs cpu decoder fed
    → result_err answer ≡ end_as (reads_blocks decoder) fed

abbrev pub CountsAs : FormatDecoder → ℕ → Type 0
CountsAs decoder count =
    (cpu : ℕ) (fed : List ℕ)
    → RepresentsAs cpu decoder fed
    → count ≡ length (kept_as (reads_blocks decoder) fed)

-- a decoder of the format that the first bytes say was fed them and those after them
pub record IsBegun (cpu : ℕ) (first rest : List ℕ) (decoder : FormatDecoder)
    (damage : Option CaptureError) (before after : List Frame) : Type 0 where
  pub format : reads_blocks decoder ≡ is_pcapng first
  pub represents : RepresentsAs cpu decoder (first ++ rest)
  pub frames : after ≡ before ++ frames_as (is_pcapng first) cpu (first ++ rest)
  pub damage_is : damage ≡ damage_as (is_pcapng first) (first ++ rest)

-- ---- a decoder of either format

-- A decoder: its CPU, the first bytes while they don't say the format yet, and the decoder of the
-- format
pub record DecoderValue : Type 0 where
  pub cpu : ℕ
  pub start : List ℕ
  pub format : Option FormatDecoder

abbrev pub decoder_value : Inside → DecoderValue
decoder_value d = record { cpu = d.cpu; start = d.start.items; format = d.format }

pub record IsSound (d : Inside) : Type 0 where
  pub few : length d.start.items < 4

-- the bytes that were fed are the first ones, fewer than four, or the decoder of their format
-- represents them
abbrev pub RepresentsBy : ℕ → List ℕ → Option FormatDecoder → List ℕ → Type 0
RepresentsBy number start None fed = (start ≡ fed) × (length fed < 4)
RepresentsBy number start (Some decoder) fed =
    (start ≡ [])
    × (4 ≤ length fed)
    × (reads_blocks decoder ≡ is_pcapng fed)
    × RepresentsAs number decoder fed

-- the decoder represents the bytes that it was fed
pub record Represents (number : ℕ) (decoder : DecoderValue) (fed : List ℕ) : Type 0 where
  pub cpu : decoder.cpu ≡ number
  pub told : RepresentsBy number decoder.start decoder.format fed

-- the bytes that are kept of those that were fed
abbrev pub kept_of : List ℕ → List ℕ
kept_of bytes = kept_as (is_pcapng bytes) bytes

abbrev pub UnlessWanted : CaptureError → Type 0 → Type 0
UnlessWanted errors.Memory P = ⊤
UnlessWanted errors.BadMagic P = P
UnlessWanted errors.BadVersion P = P
UnlessWanted (errors.BadLink field) P = P
UnlessWanted (errors.BadLength place) P = P
UnlessWanted (errors.Truncated place) P = P
UnlessWanted errors.TooLarge P = P
UnlessWanted (errors.BadInterface place) P = P

-- the fact, unless the answer is `Memory`
abbrev pub UnlessMemory : {X : Type 0} → Result X CaptureError → Type 0 → Type 0
UnlessMemory (Ok x) P = P
UnlessMemory (Err error) P = UnlessWanted error P

-- what represented some bytes before a feed represents them and the piece after it
abbrev pub RepresentsMore : DecoderValue → DecoderValue → List ℕ → Type 0
RepresentsMore old new piece =
    (cpu : ℕ) (fed : List ℕ) → Represents cpu old fed → Represents cpu new (fed ++ piece)

-- a feed appended the frames that are new with the piece
abbrev pub AppendsNew : DecoderValue → List ℕ → List Frame → List Frame → Type 0
AppendsNew decoder piece before after =
    (cpu : ℕ) (fed : List ℕ) → Represents cpu decoder fed
    → (more : List Frame)
    × (after ≡ before ++ more)
    × (frames_of cpu (fed ++ piece) ≡ frames_of cpu fed ++ more)

-- the damage is that of all bytes that were fed, the piece included
abbrev pub IsDamage : DecoderValue → List ℕ → Option CaptureError → Type 0
IsDamage decoder piece damage =
    (cpu : ℕ) (fed : List ℕ) → Represents cpu decoder fed → damage ≡ damage_of (fed ++ piece)

-- a feed returned the damage of all bytes that were fed, the piece included
abbrev pub AnswersDamage : {X : Type 0} → DecoderValue → List ℕ → Result X CaptureError → Type 0
AnswersDamage decoder piece answer =
    (cpu : ℕ) (fed : List ℕ)
    → Represents cpu decoder fed
    → result_err answer ≡ damage_of (fed ++ piece)

-- the answer is the end of all bytes that were fed
abbrev pub AnswersEnd : {X : Type 0} → DecoderValue → Result X CaptureError → Type 0
AnswersEnd decoder answer =
    (cpu : ℕ) (fed : List ℕ) → Represents cpu decoder fed → result_err answer ≡ end_of fed

-- the number of bytes that are kept of those that were fed
abbrev pub CountsKept : DecoderValue → ℕ → Type 0
CountsKept decoder count =
    (cpu : ℕ) (fed : List ℕ) → Represents cpu decoder fed → count ≡ length (kept_of fed)

-- no more bytes are kept than there are from the stop on
abbrev pub KeepsAfterStop : DecoderValue → ℕ → Type 0
KeepsAfterStop decoder count =
    (cpu : ℕ) (fed : List ℕ) → Represents cpu decoder fed → stop_of fed + count ≤ length fed

-- in a block that is skipped at most three bytes are kept
abbrev pub KeepsNoBody : DecoderValue → ℕ → Type 0
KeepsNoBody decoder count =
    (cpu : ℕ) (fed : List ℕ) → Represents cpu decoder fed → IsTrue (is_skipping fed) → count ≤ 3

-- after damage no byte is kept
abbrev pub KeepsNoDamage : DecoderValue → ℕ → Type 0
KeepsNoDamage decoder count =
    (cpu : ℕ) (fed : List ℕ) → Represents cpu decoder fed → IsSome (damage_of fed) → count ≡ 0
