-- Which of a datagram's frames has which unit of eight bytes. Units are counted from 0, frames
-- from 1.
use Rattle.std.specs.Prelude.{◌≡◌, ℕ, ◌+◌, ◌-◌, ◌*◌, ◌/◌, ◌<◌, ◌≤◌, List, [], ◌∷◌, ◌++◌, length}
use Rattle.std.specs.Prelude.{take, drop, replicate, slice_index_or, if◌then◌else◌}
use Rattle.frame_view.specs.declared.frames.Frame.{Frame}
use Rattle.ip_defrag.specs.Datagrams.{covers}
use Rattle.ip_defrag.specs.Extents.{reach_of}
use Rattle.ip_defrag.specs.Fragments.{from_of, to_of}
use Rattle.ip_defrag.specs.declared.marks.UnitOwners.{UnitOwners}

-- how many units begin before a place
abbrev pub units_to : ℕ → ℕ
units_to place = (place + 7) / 8

-- the number of the first frame that has a place, given how many frames come before these; 0 if
-- none has it
abbrev pub holder : ℕ → List Frame → ℕ → ℕ
holder before [] place = 0
holder before (frame ∷ frames) place =
    if covers frame place then before + 1 else holder (before + 1) frames place

-- the marks of the units in which a frame has places
abbrev pub own_marks : Frame → List ℕ → List ℕ
own_marks frame marks =
    take (units_to (to_of frame) - from_of frame / 8) (drop (from_of frame / 8) marks)

-- the marks with a number from the first unit to before the last
abbrev pub marked : ℕ → ℕ → ℕ → List ℕ → List ℕ
marked first last number marks =
    take first marks ++ (replicate (last - first) number ++ drop last marks)

-- each unit is marked with the number of the frame that has its first place, and none lies after
-- them
pub record AreMarks (marks : List ℕ) (frames : List Frame) : Type 0 where
  pub each :
      (unit : ℕ) → unit < length marks → slice_index_or marks unit 0 ≡ holder 0 frames (8 * unit)
  pub all : reach_of frames ≤ 8 * length marks

-- the first of some frames are marked, as many as are counted
pub record AreMarked (marks : UnitOwners) (frames : List Frame) : Type 0 where
  pub few : marks.count ≤ length frames
  pub are : AreMarks marks.units.items (take marks.count frames)
