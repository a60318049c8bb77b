-- Which frames arrive. Every frame is untagged first. With the flag of defragmentation the frames
-- of a CPU then pass one by one over the list of the fragments that are held, empty at first, and a
-- datagram takes the place of its fragments. What comes out with fewer than 14 bytes isn't an
-- arrival.
use Rattle.std.specs.Prelude.{◌≡◌, ◌≤◌, Bool, true, false, List, [], ◌∷◌, ◌++◌, length, nat_lt}
use Rattle.std.specs.Prelude.{if◌then◌else◌, Option, None, Some, IfSome, IsTrue, option_to_list}
use Rattle.frame_view.specs.Vlan.{is_tpid, untagged}
use Rattle.frame_view.specs.declared.frames.Frame.{Frame}
use Rattle.ip_defrag.specs.Fold.{pass}

-- a runt is dropped
abbrev pub unless_runt : Frame → Option Frame
unless_runt frame = if nat_lt (length frame.bytes) 14 then None else Some frame

-- and nothing stays nothing
abbrev pub no_runt : Option Frame → Option Frame
no_runt None = None
no_runt (Some frame) = unless_runt frame

-- what reassembly, if it is asked for, leaves held after an untagged frame, and what comes out of
-- it
abbrev pub held_after : Bool → List Frame → Frame → List Frame
held_after false held frame = held
held_after true held frame = (pass held frame).held

abbrev pub whole_at : Bool → List Frame → Frame → Option Frame
whole_at false held frame = Some frame
whole_at true held frame = (pass held frame).whole

-- what is held after a frame, and what arrives with it
abbrev pub held_behind : Bool → List Frame → Frame → List Frame
held_behind defrag held frame = held_after defrag held (untagged frame)

abbrev pub arrival_at : Bool → List Frame → Frame → Option Frame
arrival_at defrag held frame = no_runt (whole_at defrag held (untagged frame))

-- what arrives with each frame of a CPU, given that these are held
abbrev pub arrivals_from : Bool → List Frame → List Frame → List (Option Frame)
arrivals_from defrag held [] = []
arrivals_from defrag held (frame ∷ frames) =
    arrival_at defrag held frame ∷ arrivals_from defrag (held_behind defrag held frame) frames

-- what is held after some frames
abbrev pub held_from : Bool → List Frame → List Frame → List Frame
held_from defrag held [] = held
held_from defrag held (frame ∷ frames) = held_from defrag (held_behind defrag held frame) frames

-- what arrives with each frame of a CPU, with and without defragmentation
abbrev pub arrivals_at : Bool → List Frame → List (Option Frame)
arrivals_at defrag frames = arrivals_from defrag [] frames

-- what is in a list of options
abbrev pub somes : {A : Type 0} → List (Option A) → List A
somes [] = []
somes (x ∷ xs) = option_to_list x ++ somes xs

-- the arrivals of a CPU, in order
abbrev pub arrivals_of : Bool → List Frame → List Frame
arrivals_of defrag frames = somes (arrivals_at defrag frames)

-- a frame once it is untagged: no more bytes than were on the wire, a fraction below a second, and
-- a valid tag
pub record IsUntagged (frame : Frame) : Type 0 where
  pub wire : length frame.bytes ≤ frame.wire
  pub nsec : frame.nsec ≤ 999999999
  pub tag : IfSome frame.tag (λ tag. IsTrue (is_tpid tag.tpid))

-- an arrival: such a frame that isn't a runt
pub record IsArrival (frame : Frame) : Type 0 where
  pub no_runt : 14 ≤ length frame.bytes
  pub untagged : IsUntagged frame

-- a frame has the place of another: its CPU, and its number in that CPU's capture
pub record HasPlaceOf (frame other : Frame) : Type 0 where
  pub cpu : other.cpu ≡ frame.cpu
  pub index : other.index ≡ frame.index
