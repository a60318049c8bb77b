-- What the code's types represent.
use Rattle.std.specs.Prelude.{◌≡◌, ℕ, ◌+◌, ◌-◌, ◌*◌, ◌%◌, ◌<◌, ◌≤◌, true, false, not, List, [], ◌∷◌}
use Rattle.std.specs.Prelude.{◌++◌, length, take, drop, sum_by}
use Rattle.std.specs.List.{list_any}
use Rattle.ip_defrag.specs.Fold.{conflicts}
use Rattle.frame_view.specs.Headers.{v4_of}
use Rattle.frame_view.specs.declared.frames.Frame.{Frame}
use Rattle.frame_view.specs.declared.ip_headers.V4Part.{V4Part}
use Rattle.ip_defrag.specs.Fragments.{takes_part, from_of, to_of, is_last, data_of, headers_length}

-- a frame takes part, and its IPv4 header was read; with what follows for the places of its data
pub record IsRead (frame : Frame) (ip : V4Part) : Type 0 where
  pub taken : takes_part frame ≡ true
  pub header : ip ≡ v4_of frame.bytes
  pub begins : from_of frame ≡ 8 * ip.offset
  pub ends : to_of frame ≡ 8 * ip.offset + (ip.total - ip.header)
  pub last : is_last frame ≡ not ip.more
  pub behind : headers_length frame ≡ 14 + ip.header
  pub bytes : data_of frame ≡ take (ip.total - ip.header) (drop (14 + ip.header) frame.bytes)
  pub some : ip.header < ip.total
  pub whole : 14 + ip.total ≤ length frame.bytes
  pub most : 8 * ip.offset + (ip.total - ip.header) ≤ 65475
  pub long : 20 ≤ ip.header
  pub short : ip.header ≤ 60
  pub even : ip.header % 2 ≡ 0

-- frames that take part, none of which conflicts with one before it
abbrev pub AreHeld : List Frame → Type 0
AreHeld [] = Unit {0}
AreHeld (frame ∷ frames) =
    (takes_part frame ≡ true)
    × (list_any (λ later. conflicts later frame) frames ≡ false)
    × AreHeld frames

-- some bytes with a frame's data written to its place
abbrev pub written : Frame → List ℕ → List ℕ
written frame bytes = take (from_of frame) bytes ++ (data_of frame ++ drop (to_of frame) bytes)

-- how many bytes of data some frames have in all
abbrev pub filled : List Frame → ℕ
filled frames = sum_by (λ frame. to_of frame - from_of frame) frames
