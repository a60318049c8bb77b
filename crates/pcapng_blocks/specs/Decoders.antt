-- What a decoder of blocks represents: the bytes that it was fed.
use Rattle.std.specs.Prelude.{◌≡◌, ℕ, ◌≤◌, Bool, nat_lt, if◌then◌else◌, List, ◌++◌, length, Option}
use Rattle.std.specs.Prelude.{None, Some, Result}
use Rattle.std.specs.Result.{result_err}
use Rattle.frame_view.specs.declared.frames.Frame.{Frame}
use Rattle.pcapng_blocks.specs.declared.error.BlockError.{BlockError}
use Rattle.pcapng_blocks.specs.declared.error.BlockError.TheVariants.{TooLarge, Truncated}
use Rattle.pcapng_blocks.specs.declared.decoder.BlockDecoder.TheInside.{Inside}
use Rattle.pcapng_blocks.specs.declared.stage.BlockStage.{BlockStage}
use Rattle.pcapng_blocks.specs.declared.stage.BlockStage.TheVariants.{Blocks, Skipping, Damaged}
use Rattle.pcapng_blocks.specs.Blocks.{Spot}
use Rattle.pcapng_blocks.specs.Capture.{counted, reached_in, frames_of, damage_of, end_of}
use Rattle.pcapng_blocks.specs.Feeds.{spot_of, stage_at, rest_in, IsSoundAt}

-- A decoder: its CPU, the number of bytes that were fed of those that count, what comes next and
-- where, and the kept bytes
pub record DecoderValue : Type 0 where
  pub cpu : ℕ
  pub fed : ℕ
  pub stage : BlockStage
  pub spot : Spot
  pub rest : List ℕ

abbrev pub decoder_value : Inside → DecoderValue
decoder_value d = record {
  cpu = d.cpu;
  fed = d.fed;
  stage = d.stage;
  spot = spot_of d.cursor d.held.interfaces.items;
  rest = d.held.kept.items;
}

pub record IsSound (d : Inside) : Type 0 where
  pub here : IsSoundAt d.stage (spot_of d.cursor d.held.interfaces.items) d.held.kept.items d.fed
  pub bound : d.fed ≤ 33554432
  pub first : d.cursor.first ≤ length d.held.interfaces.items

-- the stage, given whether bytes beyond those that count were fed
abbrev pub stage_with : BlockStage → Bool → BlockStage
stage_with Blocks beyond = if beyond then Damaged TooLarge else Blocks
stage_with (Skipping skip) beyond = if beyond then Damaged TooLarge else Skipping skip
stage_with (Damaged error) beyond = Damaged error

-- a stage by its error, if it has one
abbrev pub error_of : BlockStage → Option BlockError
error_of Blocks = None
error_of (Skipping skip) = None
error_of (Damaged error) = Some error

-- how a capture ends at a stage, where its last whole block ends at `stop`, given whether bytes
-- follow it
abbrev pub end_at : BlockStage → ℕ → Bool → Option BlockError
end_at Blocks stop none_after = if none_after then None else Some (Truncated stop)
end_at (Skipping skip) stop none_after = Some (Truncated stop)
end_at (Damaged error) stop none_after = Some error

-- what comes next after these bytes
abbrev pub stage_of : List ℕ → BlockStage
stage_of bytes = stage_with (stage_at (reached_in 0 bytes)) (nat_lt 33554432 (length bytes))

-- the bytes that are kept: those from the stop on, of a block that is skipped only those of its
-- tail, none after damage
abbrev pub kept_of : List ℕ → List ℕ
kept_of bytes = rest_in (stage_of bytes) (reached_in 0 bytes).left

-- the decoder represents the bytes that it was fed
pub record Represents (number : ℕ) (decoder : DecoderValue) (fed : List ℕ) : Type 0 where
  pub cpu : decoder.cpu ≡ number
  pub count : decoder.fed ≡ length (counted fed)
  pub stage : decoder.stage ≡ stage_of fed
  pub spot : decoder.spot ≡ (reached_in 0 fed).spot
  pub rest : decoder.rest ≡ kept_of fed

-- what represented some bytes before a feed represents them and the piece after it
abbrev pub RepresentsMore : DecoderValue → DecoderValue → List ℕ → Type 0
RepresentsMore old new piece =
    (cpu : ℕ) (fed : List ℕ) → Represents cpu old fed → Represents cpu new (fed ++ piece)

-- a feed appended the frames that are new with the piece
abbrev pub AppendsNew : DecoderValue → List ℕ → List Frame → List Frame → Type 0
AppendsNew decoder piece before after =
    (cpu : ℕ) (fed : List ℕ) → Represents cpu decoder fed
    → (more : List Frame)
    × (after ≡ before ++ more)
    × (frames_of cpu (fed ++ piece) ≡ frames_of cpu fed ++ more)

-- a feed returned the damage of all bytes that were fed, the piece included
abbrev pub IsDamage : DecoderValue → List ℕ → Option BlockError → Type 0
IsDamage decoder piece damage =
    (cpu : ℕ) (fed : List ℕ) → Represents cpu decoder fed → damage ≡ damage_of (fed ++ piece)

-- the answer is the end of all bytes that were fed
abbrev pub IsEnd : DecoderValue → Result Unit BlockError → Type 0
IsEnd decoder answer =
    (cpu : ℕ) (fed : List ℕ) → Represents cpu decoder fed → result_err answer ≡ end_of fed

-- the number of bytes that are kept of those that were fed
abbrev pub CountsKept : DecoderValue → ℕ → Type 0
CountsKept decoder count =
    (cpu : ℕ) (fed : List ℕ) → Represents cpu decoder fed → count ≡ length (kept_of fed)
