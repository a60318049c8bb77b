-- The times of the frames of captures.
use Rattle.std.specs.Prelude.{ℕ, ◌+◌, ◌*◌, List, map}
use Rattle.frame_view.specs.declared.frames.Frame.{Frame}

-- the time of a frame as its capture has it, in nanoseconds
abbrev pub time_of : Frame → ℕ
time_of frame = frame.sec * 1000000000 + frame.nsec

-- the times of the frames of a CPU, in their order
abbrev pub times_of : List Frame → List ℕ
times_of frames = map time_of frames
