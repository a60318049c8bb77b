-- What the code keeps of all of a datagram's fragments, so that a push needn't look at each. In
-- bytes, from 0.
use Rattle.std.specs.Prelude.{◌≡◌, ℕ, ◌+◌, ◌-◌, max, List, [], ◌∷◌, find, Option, None, Some}
use Rattle.std.specs.Prelude.{option_map, if◌then◌else◌}
use Rattle.frame_view.specs.declared.frames.Frame.{Frame}
use Rattle.ip_defrag.specs.Fragments.{from_of, to_of, is_last}
use Rattle.ip_defrag.specs.Held.{AreHeld, filled}
use Rattle.ip_defrag.specs.declared.extents.Extent.{Extent}

-- where a datagram ends, if one of its frames is last
abbrev pub end_of : List Frame → Option ℕ
end_of frames = option_map to_of (find is_last frames)

-- the highest place after the data of one of some frames
abbrev pub reach_of : List Frame → ℕ
reach_of [] = 0
reach_of (frame ∷ frames) = max (to_of frame) (reach_of frames)

-- the extent of some frames
unfoldable pub extent_of : List Frame → Extent
extent_of frames = record {
  filled = filled frames;
  reach = reach_of frames;
  end = end_of frames;
}

-- the end of a datagram with one more frame
abbrev pub end_with : Frame → Option ℕ → Option ℕ
end_with new None = if is_last new then Some (to_of new) else None
end_with new (Some end) = Some end

-- an extent with one more frame
abbrev pub extended : Frame → Extent → Extent
extended new extent = record {
  filled = extent.filled + (to_of new - from_of new);
  reach = max extent.reach (to_of new);
  end = end_with new extent.end;
}

-- the frames of a datagram are kept with their extent
pub record AreKept (frames : List Frame) (extent : Extent) : Type 0 where
  pub held : AreHeld frames
  pub counted : extent ≡ extent_of frames
