-- A VLAN tag taken out of a frame, and put back.
use Rattle.std.specs.Prelude.{ℕ, ◌-◌, List, ◌++◌, length, take, drop, nat_lt}
use Rattle.std.specs.Prelude.{if◌then◌else◌, Option, None, Some}
use Rattle.std.specs.Int.{to_be_bytes, w16}
use Rattle.frame_view.specs.Headers.{u16_at}
pub use Rattle.frame_view.specs.Tags.{is_tagged, is_tpid}
use Rattle.frame_view.specs.declared.frames.Frame.{Frame}
use Rattle.frame_view.specs.declared.frames.Packet.{Packet}
use Rattle.frame_view.specs.declared.frames.Tag.{Tag}

-- the tag that follows the addresses
abbrev pub tag_of : List ℕ → Tag
tag_of bytes = record { tpid = u16_at 12 bytes; tci = u16_at 14 bytes }

-- the bytes without the four of the tag
abbrev pub without_tag : List ℕ → List ℕ
without_tag bytes = take 12 bytes ++ drop 16 bytes

-- the frame with its first tag, if it has one, apart from its bytes; on the wire it is 4 bytes
-- shorter
abbrev pub untagged : Frame → Frame
untagged frame =
    if is_tagged frame.bytes
    then record frame {
      wire = frame.wire - 4;
      bytes = without_tag frame.bytes;
      tag = Some (tag_of frame.bytes);
    }
    else frame

-- the bytes with a tag put back after the addresses, if both addresses are there
abbrev pub with_tag : Option Tag → List ℕ → List ℕ
with_tag None bytes = bytes
with_tag (Some tag) bytes =
    if nat_lt (length bytes) 12 then bytes
    else take 12 bytes ++ (to_be_bytes w16 tag.tpid ++ (to_be_bytes w16 tag.tci ++ drop 12 bytes))

-- the bytes of a packet's frame: its own, with its tag put back
abbrev pub frame_of : Packet → List ℕ
frame_of packet = with_tag packet.tag packet.bytes
