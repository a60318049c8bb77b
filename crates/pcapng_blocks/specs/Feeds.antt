-- The outcome of a feed of a decoder, by where the split stops.
use Rattle.std.specs.Prelude.{◌≡◌, ℕ, ◌+◌, ◌-◌, ◌*◌, ◌≤◌, ◌<◌, true, if◌then◌else◌, Option, None}
use Rattle.std.specs.Prelude.{Some, List, [], ◌++◌, length, take, drop}
use Rattle.frame_view.specs.declared.frames.Frame.{Frame}
use Rattle.pcapng_blocks.specs.declared.error.BlockError.{BlockError}
use Rattle.pcapng_blocks.specs.declared.heads.Look.{Look}
use Rattle.pcapng_blocks.specs.declared.heads.Look.TheVariants as looks
use Rattle.pcapng_blocks.specs.declared.interfaces.Interface.{Interface}
use Rattle.pcapng_blocks.specs.declared.fronts.Front.TheVariants as fronts
use Rattle.pcapng_blocks.specs.declared.block_reader.Cursor.{Cursor}
use Rattle.pcapng_blocks.specs.declared.block_reader.BlockProgress.{BlockProgress}
use Rattle.pcapng_blocks.specs.declared.block_reader.Held.{Held}
use Rattle.pcapng_blocks.specs.declared.stage.Skip.{Skip}
use Rattle.pcapng_blocks.specs.declared.stage.BlockStage.{BlockStage}
use Rattle.pcapng_blocks.specs.declared.stage.BlockStage.TheVariants as stages
use Rattle.pcapng_blocks.specs.Heads.{look_at, is_skipped}
use Rattle.pcapng_blocks.specs.Blocks.{Spot, Reached, front_of, split_from}

-- the place of a cursor, whose section's interfaces are those from the first on
abbrev pub spot_of : Cursor → List Interface → Spot
spot_of cursor interfaces =
    record {
      stop = cursor.stop;
      index = cursor.index;
      order = cursor.order;
      interfaces = drop cursor.first interfaces;
    }

-- what comes next where no test failed: the rest of a block that is skipped, or a block
abbrev pub waiting : Look → List ℕ → BlockStage
waiting looks.Short left = stages.Blocks
waiting (looks.Bad error) left = stages.Blocks
waiting (looks.Headed head) left =
    if is_skipped head.kind
    then stages.Skipping (record { head = head; left = head.total - 4 - length left })
    else stages.Blocks

-- what comes next where the split stops
abbrev pub stage_by : Option BlockError → Look → List ℕ → BlockStage
stage_by None look left = waiting look left
stage_by (Some error) look left = stages.Damaged error

abbrev pub stage_at : Reached → BlockStage
stage_at reached =
    stage_by reached.fault (look_at reached.spot.order reached.spot.stop reached.left) reached.left

-- the bytes that are kept of those from the stop on: of a block that is skipped only those of its
-- tail
abbrev pub rest_in : BlockStage → List ℕ → List ℕ
rest_in stages.Blocks left = left
rest_in (stages.Skipping skip) left = drop (skip.head.total - 4) left
rest_in (stages.Damaged error) left = []

-- a feed has read to where the split stops, and has these kept bytes, interfaces and frames
pub record Comes (reached : Reached) (progress : BlockProgress) (kept : List ℕ)
    (interfaces : List Interface) (after : List Frame) : Type 0 where
  pub stage : progress.stage ≡ stage_at reached
  pub spot : spot_of progress.cursor interfaces ≡ reached.spot
  pub rest : drop progress.cut kept ≡ rest_in (stage_at reached) reached.left
  pub frames : after ≡ reached.frames

-- the bytes from the stop on are those of a block that is being skipped, of which the tail's are
-- kept
pub record IsSkipping (spot : Spot) (skip : Skip) (rest left : List ℕ) : Type 0 where
  pub head : look_at spot.order spot.stop left ≡ looks.Headed skip.head
  pub short : length left ≤ skip.head.total
  pub count : skip.left ≡ skip.head.total - 4 - length left
  pub tail : rest ≡ drop (skip.head.total - 4) left

-- the bytes from the stop on are those that are kept: they begin neither a block that is read nor
-- one that is skipped
pub record IsPart (spot : Spot) (rest : List ℕ) : Type 0 where
  pub part : front_of spot.order spot.interfaces spot.stop rest ≡ fronts.Part
  pub waits : waiting (look_at spot.order spot.stop rest) rest ≡ stages.Blocks

-- a block that is being skipped has more bytes before its tail, or some of the tail is kept
pub record IsSkip (skip : Skip) (rest : List ℕ) : Type 0 where
  pub skipped : is_skipped skip.head.kind ≡ true
  pub some : 12 ≤ skip.head.total
  pub few : length rest ≤ 4
  pub within : skip.left + 4 ≤ skip.head.total
  pub none : 0 < skip.left → rest ≡ []

-- what is kept at a stage isn't a whole block, and with what was skipped it is within the bytes
-- that were fed
abbrev pub IsKept : BlockStage → Spot → List ℕ → ℕ → Type 0
IsKept stages.Blocks spot rest fed = IsPart spot rest × (spot.stop + length rest ≤ fed)
IsKept (stages.Skipping skip) spot rest fed =
    IsSkip skip rest × (spot.stop + skip.head.total + length rest ≤ fed + skip.left + 4)
IsKept (stages.Damaged error) spot rest fed = (rest ≡ []) × (spot.stop ≤ fed)

-- a decoder's place is within the bytes that were fed, and each packet before it has at least 16
pub record IsSoundAt (stage : BlockStage) (spot : Spot) (rest : List ℕ) (fed : ℕ) : Type 0 where
  pub kept : IsKept stage spot rest fed
  pub count : 16 * spot.index ≤ spot.stop

-- a list was only appended to
pub record Extends {A : Type 0} (old new : List A) : Type 0 where
  pub front : take (length old) new ≡ old

-- what was read is within what is kept
pub record IsReadTo (progress : BlockProgress) (held : Held) : Type 0 where
  pub cut : progress.cut ≤ length held.kept.items
  pub first : progress.cursor.first ≤ length held.interfaces.items

-- nothing was read or appended
pub record IsUnread (stage : BlockStage) (cursor : Cursor) (old : Held) (before : List Frame)
    (progress : BlockProgress) (new : Held) (after : List Frame) : Type 0 where
  pub progress_is : progress ≡ record { stage = stage; cursor = cursor; cut = 0 }
  pub kept : new.kept.items ≡ old.kept.items
  pub interfaces : new.interfaces.items ≡ old.interfaces.items
  pub frames : after ≡ before

-- the outcome of a feed of a piece at a stage, whatever bytes the kept ones represent
abbrev pub Feeds :
    ℕ → BlockStage → Cursor → Held → List ℕ → List Frame → BlockProgress → Held → List Frame
    → Type 0
Feeds cpu stages.Blocks cursor old piece before progress new after =
    Comes (split_from cpu (spot_of cursor old.interfaces.items) before (old.kept.items ++ piece))
    progress new.kept.items new.interfaces.items after
Feeds cpu (stages.Skipping skip) cursor old piece before progress new after =
    (left : List ℕ) → IsSkipping (spot_of cursor old.interfaces.items) skip old.kept.items left
    → Comes (split_from cpu (spot_of cursor old.interfaces.items) before (left ++ piece)) progress
    new.kept.items new.interfaces.items after
Feeds cpu (stages.Damaged error) cursor old piece before progress new after =
    IsUnread (stages.Damaged error) cursor old before progress new after

-- the stage and the kept bytes after a feed are sound, after this number of bytes
abbrev pub StaysSound : BlockProgress → Held → ℕ → Type 0
StaysSound progress held fed =
    IsSoundAt progress.stage (spot_of progress.cursor held.interfaces.items)
    (drop progress.cut held.kept.items) fed
