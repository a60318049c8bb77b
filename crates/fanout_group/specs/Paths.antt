-- The receive path of a CPU: its state after the frames so far, and when its log is lawful over
-- them.
use Rattle.std.specs.Prelude.{◌≡◌, ℕ, List, [], ◌∷◌, ◌++◌, Option, None, Some}
use Rattle.frame_view.specs.declared.frames.Frame.{Frame}
use Rattle.fanout_group.specs.Arrivals.{arrivals_of, held_from}
use Rattle.fanout_group.specs.Logs.{IsLawful}
use Rattle.fanout_group.specs.Plans.{Shape, has_defrag}
use Rattle.fanout_group.specs.Routes.{present_after}
use Rattle.fanout_group.specs.Rules.{Rules}
use Rattle.fanout_group.specs.declared.logs.ArrivalLog.{ArrivalLog}
use Rattle.fanout_group.specs.declared.modes.Mode.{Mode}

pub record Path : Type 0 where
  -- the shape of the group
  pub shape : Shape
  -- the fragments that are held, in the order in which they came
  pub held : List Frame
  -- the present member
  pub present : ℕ
  -- the arrivals so far
  pub log : List ArrivalLog

-- before the first frame
abbrev pub first_path : Shape → Path
first_path shape = record { shape = shape; held = []; present = 0; log = [] }

-- the present member after some arrivals
abbrev pub present_from : Mode → ℕ → List ArrivalLog → ℕ
present_from mode present [] = present
present_from mode present (entry ∷ log) =
    present_from mode (present_after mode present entry.tries) log

-- the path after an arrival that is logged
abbrev pub logged : ArrivalLog → Path → Path
logged entry path = record path {
  present = present_after path.shape.mode path.present entry.tries;
  log = path.log ++ entry ∷ [];
}

-- the path has taken these frames, and these of their arrivals are logged, lawfully
pub record HasLogged (rules : Rules) (frames arrivals : List Frame) (path : Path) : Type 0 where
  pub held_is : path.held ≡ held_from (has_defrag path.shape.flags) [] frames
  pub lawful : IsLawful rules arrivals path.log
  pub present_is : path.present ≡ present_from path.shape.mode 0 path.log

-- the log is lawful over the frames so far
abbrev pub IsPath : Rules → List Frame → Path → Type 0
IsPath rules frames path =
    HasLogged rules frames (arrivals_of (has_defrag path.shape.flags) frames) path

-- the last arrival of the frames so far is this one, and isn't logged yet
abbrev pub IsPathTo : Rules → List Frame → Frame → Path → Type 0
IsPathTo rules frames arrival path =
    (earlier : List Frame)
    × (arrivals_of (has_defrag path.shape.flags) frames ≡ earlier ++ arrival ∷ [])
    × HasLogged rules frames earlier path

-- after one more frame: a lawful log, or an arrival that is to be logged
abbrev pub IsPathBehind : Rules → List Frame → Option Frame → Path → Type 0
IsPathBehind rules frames None path = IsPath rules frames path
IsPathBehind rules frames (Some arrival) path = IsPathTo rules frames arrival path
