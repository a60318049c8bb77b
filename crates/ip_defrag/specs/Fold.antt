-- Reassembly as a pass over one flat list of held frames, in the order in which they were pushed.
use Rattle.std.specs.Prelude.{ℕ, ◌+◌, ◌-◌, Bool, not, ◌&&◌, ◌||◌, List, [], ◌∷◌, ◌++◌, length}
use Rattle.std.specs.Prelude.{filter, nat_lt, nat_le, ◌==◌, if◌then◌else◌, bytes_eq, Option, None}
use Rattle.std.specs.Prelude.{Some, option_to_list}
use Rattle.std.specs.List.{list_any}
use Rattle.std.specs.Bool.{beq}
use Rattle.frame_view.specs.declared.frames.Frame.{Frame}
use Rattle.ip_defrag.specs.Fragments.{takes_part, name_of, from_of, to_of, is_last, data_of}
use Rattle.ip_defrag.specs.Datagrams.{shares, completed}
use Rattle.ip_defrag.specs.declared.names.Name.{Name}

-- whether two names are one
unfoldable pub same_name : Name → Name → Bool
same_name a b =
    (a.source == b.source)
    && (a.dest == b.dest)
    && (a.protocol == b.protocol)
    && (a.ident == b.ident)

-- whether a frame has a name
abbrev pub is_named : Name → Frame → Bool
is_named name frame = same_name (name_of frame) name

-- the held frames of a name, and those of all other names
abbrev pub of_name : Name → List Frame → List Frame
of_name name held = filter (is_named name) held

abbrev pub without : Name → List Frame → List Frame
without name held = filter (λ frame. not (is_named name frame)) held

-- the names of some frames, each once, in the order of their first frames
abbrev pub names_of : List Frame → List Name
names_of [] = []
names_of (frame ∷ held) =
    name_of frame ∷ filter (λ name. not (same_name name (name_of frame))) (names_of held)

-- the seconds of a name's first frame
abbrev pub opened_at : Name → List Frame → ℕ
opened_at name [] = 0
opened_at name (frame ∷ held) = if is_named name frame then frame.sec else opened_at name held

-- at most this many names are held
abbrev pub most_names : ℕ
most_names = 64

-- rule 1: a name whose first frame is 30 seconds old or more is stale, and loses all its frames
abbrev pub is_stale : ℕ → List Frame → Name → Bool
is_stale now held name = nat_le (opened_at name held + 30) now

abbrev pub fresh : ℕ → List Frame → List Frame
fresh now held = filter (λ frame. not (is_stale now held (name_of frame))) held

-- rule 2: if the name is a new one and 64 are held, the one whose first frame comes first loses all
-- its frames
abbrev pub without_first : List Frame → List Frame
without_first [] = []
without_first (frame ∷ held) = without (name_of frame) (frame ∷ held)

abbrev pub with_room : Name → List Frame → List Frame
with_room name held =
    if not (list_any (is_named name) held) && (length (names_of held) == most_names)
    then without_first held
    else held

-- what rules 1 and 2 leave when a frame is pushed
unfoldable pub kept_for : Frame → List Frame → List Frame
kept_for frame held = with_room (name_of frame) (fresh frame.sec held)

-- rule 3: the same place, end, more bit and data
unfoldable pub is_copy : Frame → Frame → Bool
is_copy frame other =
    (from_of frame == from_of other) && (to_of frame == to_of other)
    && beq (is_last frame) (is_last other) && bytes_eq (data_of frame) (data_of other)

-- rule 4: one is last and the other reaches past it, or both are last with two ends
unfoldable pub contradicts : Frame → Frame → Bool
contradicts frame other =
    (is_last other && nat_lt (to_of other) (to_of frame))
    || (is_last frame && is_last other && not (to_of frame == to_of other))
    || (is_last frame && nat_lt (to_of frame) (to_of other))

-- rule 4: a shared byte place, or ends that can't both be
unfoldable pub conflicts : Frame → Frame → Bool
conflicts frame other = shares frame other || contradicts frame other

-- what a frame leaves held, what comes out, and how many frames are given up, the frame itself
-- counted
pub record Passed : Type 0 where
  pub held : List Frame
  pub whole : Option Frame
  pub discarded : ℕ

-- rule 5: the frame is held; if that completes its datagram, this comes out and its frames leave
abbrev pub join_by : Option Frame → Frame → List Frame → ℕ → Passed
join_by None frame held gone = record { held = held; whole = None; discarded = gone }
join_by (Some whole) frame held gone =
    record { held = without (name_of frame) held; whole = Some whole; discarded = gone }

abbrev pub join : Frame → List Frame → ℕ → Passed
join frame held gone = join_by (completed (of_name (name_of frame) held) frame) frame held gone

-- rules 3 to 5, after rules 1 and 2 have taken some frames away
abbrev pub judge : Frame → List Frame → ℕ → Passed
judge frame held gone =
    if list_any (is_copy frame) (of_name (name_of frame) held)
    then record { held = held; whole = None; discarded = gone + 1 }
    else if list_any (conflicts frame) (of_name (name_of frame) held)
    then record {
      held = without (name_of frame) held;
      whole = None;
      discarded = gone + length (of_name (name_of frame) held) + 1;
    }
    else join frame (held ++ frame ∷ []) gone

-- one frame's pass over the held frames: one that doesn't take part comes out as it is
unfoldable pub pass : List Frame → Frame → Passed
pass held frame =
    if takes_part frame
    then judge frame (kept_for frame held) (length held - length (kept_for frame held))
    else record { held = held; whole = Some frame; discarded = 0 }

-- what comes out of some frames, one after another
abbrev pub passed : List Frame → List Frame → List Frame
passed held [] = []
passed held (frame ∷ frames) =
    option_to_list (pass held frame).whole ++ passed (pass held frame).held frames
