-- The held frames by their names, as the code keeps them.
use Rattle.std.specs.Prelude.{◌≡◌, ◌≤◌, slice_index_or, false, ℕ, ◌+◌, Bool, not, ◌&&◌, List, []}
use Rattle.std.specs.Prelude.{◌∷◌, ◌++◌, length, map, filter, set, remove, sum_by, nat_le, ◌==◌}
use Rattle.std.specs.Prelude.{if◌then◌else◌, Option, None, Some}
use Rattle.frame_view.specs.declared.frames.Frame.{Frame}
use Rattle.ip_defrag.specs.Fragments.{name_of}
use Rattle.std.specs.List.{list_any}
use Rattle.ip_defrag.specs.Fold.{same_name, of_name, names_of, opened_at, most_names, Passed, pass}
use Rattle.ip_defrag.specs.Fold.{is_copy, conflicts}
use Rattle.ip_defrag.specs.Datagrams.{completed}
use Rattle.ip_defrag.specs.declared.rules.Judgement.{Judgement}
use Rattle.ip_defrag.specs.declared.rules.Judgement.TheVariants.{Copy, Conflict, Fits}
use Rattle.ip_defrag.specs.declared.passes.FragmentAnswer.{FragmentAnswer}
use Rattle.ip_defrag.specs.declared.names.Name.{Name}

-- the held frames of a name, in the order in which they were pushed, and the seconds of the first
pub record Group : Type 0 where
  pub name : Name
  pub opened : ℕ
  pub fragments : List Frame

abbrev pub group_of : List Frame → Name → Group
group_of held name = record {
  name = name;
  opened = opened_at name held;
  fragments = of_name name held;
}

-- all held frames by their names, in the order in which these were opened
unfoldable pub groups : List Frame → List Group
groups held = map (group_of held) (names_of held)

-- whether a group has a name
abbrev pub has_name : Name → Group → Bool
has_name name group = same_name group.name name

-- whether a group's first frame is less than 30 seconds old
abbrev pub is_fresh : ℕ → Group → Bool
is_fresh now group = not (nat_le (group.opened + 30) now)

-- the group that a frame opens
abbrev pub opened_by : Frame → Group
opened_by frame = record { name = name_of frame; opened = frame.sec; fragments = frame ∷ [] }

-- a group with one more frame
abbrev pub with_frame : Frame → Group → Group
with_frame frame group = record group { fragments = group.fragments ++ frame ∷ [] }

-- how many frames some groups have in all
unfoldable pub total : List Group → ℕ
total some = sum_by (λ group. length group.fragments) some

-- a group after a frame was added to the group of its name
abbrev pub updated : Frame → Group → Group
updated frame group = if has_name (name_of frame) group then with_frame frame group else group

-- how a new frame relates to held ones
abbrev pub judgement : Frame → List Frame → Judgement
judgement new held =
    if list_any (is_copy new) held then Copy
    else if list_any (conflicts new) held then Conflict
    else Fits

-- whether a group has a name and is fresh
abbrev pub is_live : Name → ℕ → Group → Bool
is_live name now group = has_name name group && is_fresh now group

-- a frame conflicts with no frame of a group
abbrev pub FitsIn : Frame → Group → Type 0
FitsIn frame group = list_any (conflicts frame) group.fragments ≡ false

-- the datagram of some frames with one more, the newest
abbrev pub completed_with : Frame → List Frame → Option Frame
completed_with frame frames = completed (frames ++ frame ∷ []) frame

-- some groups without the first, if there are as many as are allowed
abbrev pub with_place : List Group → List Group
with_place some = if length some == most_names then remove some 0 else some

-- what a frame leaves that opens its name
unfoldable pub after_opening : Frame → List Group → List Group
after_opening frame some = with_place (filter (is_fresh frame.sec) some) ++ opened_by frame ∷ []

-- what a frame leaves that joins the group at a place, the datagram that comes out, and how many
-- frames that has
pub record Joined : Type 0 where
  pub left : List Group
  pub whole : Option Frame
  pub used : ℕ

abbrev pub joined_whole : Option Frame → Frame → Group → List Group → ℕ → Joined
joined_whole None frame group some at =
    record { left = set some at (with_frame frame group); whole = None; used = 0 }
joined_whole (Some whole) frame group some at =
    record { left = remove some at; whole = Some whole; used = length group.fragments + 1 }

unfoldable pub held_by : Frame → Group → List Group → ℕ → Joined
held_by frame group some at =
    joined_whole (completed_with frame group.fragments) frame group some at

abbrev pub joined_by : Judgement → Frame → Group → List Group → ℕ → Joined
joined_by Copy frame group some at = record { left = some; whole = None; used = 0 }
joined_by Conflict frame group some at = record { left = remove some at; whole = None; used = 0 }
joined_by Fits frame group some at = held_by frame group some at

unfoldable pub joined : Frame → Group → List Group → ℕ → Joined
joined frame group some at = joined_by (judgement frame group.fragments) frame group some at

-- what is left, what came out, and the frames counted: each that was held, and the new one
pub record Agrees (passed : Passed) (before : ℕ) (left : List Group) (whole : Option Frame)
    (used : ℕ) : Type 0 where
  pub left_is : left ≡ groups passed.held
  pub whole_is : whole ≡ passed.whole
  pub counted : passed.discarded + length passed.held + used ≡ before + 1

-- what was returned and left is the result of a frame at a place
pub record IsJoined (frame : Frame) (at : ℕ) (some left : List Group) (answer : FragmentAnswer)
    : Type 0 where
  pub left_is : (d : Group) → left ≡ (joined frame (slice_index_or some at d) some at).left
  pub whole_is :
      (d : Group) → answer.whole ≡ (joined frame (slice_index_or some at d) some at).whole
  pub used_is : (d : Group) → answer.used ≡ (joined frame (slice_index_or some at d) some at).used

-- the same for a frame that fits there
pub record IsHeld (frame : Frame) (at : ℕ) (some left : List Group)
    (answer : FragmentAnswer) : Type 0 where
  pub left_is : (d : Group) → left ≡ (held_by frame (slice_index_or some at d) some at).left
  pub whole_is :
      (d : Group) → answer.whole ≡ (held_by frame (slice_index_or some at d) some at).whole
  pub used_is : (d : Group) → answer.used ≡ (held_by frame (slice_index_or some at d) some at).used

-- what was returned and left agrees with a frame's pass over a flat list
abbrev pub Passes : List Frame → Frame → List Group → FragmentAnswer → Type 0
Passes held frame left answer = Agrees (pass held frame) (length held) left answer.whole answer.used

-- how many frames are held, and the most that can be
pub record IsCount (count : ℕ) (held : List Frame) : Type 0 where
  pub counted : count ≡ length held
  pub most : count ≤ 4190400

-- the datagrams that the code keeps are the groups of a flat list, and few, and the number is that
-- of its frames
pub record AreGroups (some : List Group) (held : List Frame) (count : ℕ) : Type 0 where
  pub grouped : some ≡ groups held
  pub few : length some ≤ most_names
  pub counted : IsCount count held
