-- A CPU whose frames are read one after another.
use Rattle.std.specs.Prelude.{◌≡◌, ℕ, ◌+◌, ◌<◌, ◌≤◌, max, List, [], ◌∷◌, ◌++◌, ⊤, None}
use Rattle.std.specs.List.{AllByRecursion}
use Rattle.capture_file.specs.Laws.{IsCaptured}
use Rattle.deal_rules.specs.Marks.{mark_of}
use Rattle.deal_rules.specs.Times.{time_of}
use Rattle.deal_rules.specs.declared.marks.Mark.{Mark}
use Rattle.deal_rules.specs.declared.marks.Mark.TheVariants.{Nothing}
use Rattle.fanout_group.specs.Arrivals.{arrival_at, held_behind}
use Rattle.fanout_group.specs.Plans.{Shape, has_defrag}
use Rattle.fanout_group.specs.Rules.{Rules}
use Rattle.frame_view.specs.declared.frames.Frame.{Frame}
use Rattle.frame_deals.specs.declared.mark_queue.MarkedFrame.{MarkedFrame}

pub record Dealing : Type 0 where
  -- its number, from 0
  pub cpu : ℕ
  -- the shape of its group
  pub shape : Shape
  -- how many frames it had
  pub frames : ℕ
  -- with how many of them a frame arrived
  pub arrivals : ℕ
  -- the fragments that are held
  pub held : List Frame
  -- the greatest time of its frames, 0 before the first
  pub latest : ℕ
  -- the time of each frame, rising, and what comes of it with ticket 0
  pub marks : List MarkedFrame

-- nothing was read
abbrev pub first_dealing : ℕ → Shape → Dealing
first_dealing number its_shape = record {
  cpu = number;
  shape = its_shape;
  frames = 0;
  arrivals = 0;
  held = [];
  latest = 0;
  marks = [];
}

-- how many arrivals a mark stands for
abbrev pub count_of : Mark → ℕ
count_of Nothing = 0
count_of mark = 1

-- after one more frame, which has the number of the frames before it
abbrev pub after_frame : Rules → ℕ → Frame → Dealing → Dealing
after_frame rules room frame dealing =
    let defrag = has_defrag dealing.shape.flags in
    let placed : Frame = record frame { index = dealing.frames } in
    let arrival = arrival_at defrag dealing.held placed in
    let mark = mark_of rules room 0 arrival in
    let time = max dealing.latest (time_of frame) in
    record dealing {
      frames = dealing.frames + 1;
      arrivals = dealing.arrivals + count_of mark;
      held = held_behind defrag dealing.held placed;
      latest = time;
      marks = dealing.marks ++ record { time = time; mark = mark } ∷ [];
    }

-- after some more frames, in order
abbrev pub after_frames : Rules → ℕ → List Frame → Dealing → Dealing
after_frames rules room [] dealing = dealing
after_frames rules room (frame ∷ frames) dealing =
    after_frames rules room frames (after_frame rules room frame dealing)

-- the room of a block: some bytes beside a packet's header, and at most those of the largest block,
-- or of one that keeps as much of a packet as the largest slot
pub record IsRoom (room : ℕ) : Type 0 where
  pub some : 82 < room
  pub few : room ≤ 1048592

-- a frame of the capture of a CPU, as a decoder gives it
pub record IsReadable (number : ℕ) (frame : Frame) : Type 0 where
  pub cpu : frame.cpu ≡ number
  pub bare : frame.tag ≡ None
  pub captured : IsCaptured frame

-- times that don't fall, from this one on
abbrev pub RisesFrom : ℕ → List MarkedFrame → Type 0
RisesFrom time [] = ⊤
RisesFrom time (frame ∷ frames) = (time ≤ frame.time) × RisesFrom frame.time frames

-- times that don't fall
abbrev pub IsRising : List MarkedFrame → Type 0
IsRising frames = RisesFrom 0 frames

-- and the last of which is at most this one
pub record RisesTo (latest : ℕ) (frames : List MarkedFrame) : Type 0 where
  pub rises : IsRising frames
  pub last : AllByRecursion (λ frame. frame.time ≤ latest) frames
