-- Which frames take part in reassembly, and where their data is. Places and lengths are in bytes,
-- from 0.
use Rattle.std.specs.Prelude.{ℕ, ◌+◌, ◌-◌, ◌*◌, ◌%◌, Bool, false, not, ◌&&◌, ◌||◌, List, length}
use Rattle.std.specs.Prelude.{take, drop, nat_lt, nat_le, ◌==◌}
use Rattle.frame_view.specs.Headers.{view_of, v4_of}
use Rattle.frame_view.specs.declared.frames.Frame.{Frame}
use Rattle.frame_view.specs.declared.headers.Headers.{Headers}
use Rattle.frame_view.specs.declared.headers.Headers.TheVariants.{Runt, Plain, V4, V6}
use Rattle.frame_view.specs.declared.ip_headers.V4Part.{V4Part}
use Rattle.ip_defrag.specs.declared.names.Name.{Name}

-- the most data of a datagram: after the longest header of 60 it makes a total length of 65535
abbrev pub most_data : ℕ
most_data = 65475

-- the length of a packet's data: it ends at the total length, whatever padding was captured after
-- it
abbrev pub data_length : V4Part → ℕ
data_length ip = ip.total - ip.header

-- the header is a fragment's, all of its data was captured, there is some, and it is where data may
-- be
abbrev pub is_fragment : V4Part → ℕ → Bool
is_fragment ip captured =
    (ip.more || nat_lt 0 ip.offset)
    && nat_le (14 + ip.total) captured
    && nat_lt ip.header ip.total
    && (not ip.more || (data_length ip % 8 == 0))
    && nat_le (8 * ip.offset + data_length ip) most_data

-- among all headers only those of IPv4 can be a fragment's
abbrev pub takes_part_by : Headers → ℕ → Bool
takes_part_by Runt captured = false
takes_part_by (Plain link) captured = false
takes_part_by (V4 link ip) captured = is_fragment ip captured
takes_part_by (V6 link ip) captured = false

-- whether a frame takes part in reassembly; any other one comes out as it is
unfoldable pub takes_part : Frame → Bool
takes_part frame = takes_part_by (view_of frame.bytes) (length frame.bytes)

-- what the fragments of a datagram have in common (RFC 791): both addresses, protocol and
-- identification
unfoldable pub name_of : Frame → Name
name_of frame = record {
  source = (v4_of frame.bytes).from;
  dest = (v4_of frame.bytes).to;
  protocol = (v4_of frame.bytes).next;
  ident = (v4_of frame.bytes).ident;
}

-- the place in its datagram at which a frame's data begins: the offset counts units of eight
unfoldable pub from_of : Frame → ℕ
from_of frame = 8 * (v4_of frame.bytes).offset

-- the place after its data
unfoldable pub to_of : Frame → ℕ
to_of frame = 8 * (v4_of frame.bytes).offset + data_length (v4_of frame.bytes)

-- whether no more fragments follow
unfoldable pub is_last : Frame → Bool
is_last frame = not (v4_of frame.bytes).more

-- the data
unfoldable pub data_of : Frame → List ℕ
data_of frame =
    take (data_length (v4_of frame.bytes)) (drop (14 + (v4_of frame.bytes).header) frame.bytes)

-- the length of the two headers before the data
unfoldable pub headers_length : Frame → ℕ
headers_length frame = 14 + (v4_of frame.bytes).header
