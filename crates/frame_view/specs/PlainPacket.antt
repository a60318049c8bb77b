-- The packet of a frame on its own.
use Rattle.std.specs.Prelude.{List, ℕ, length, None}
use Rattle.frame_view.specs.Headers.{link_of, packet_type_of}
use Rattle.frame_view.specs.declared.frames.Packet.{Packet}

-- times and hash are 0, and no own address is given; the rest comes from the frame's link header
abbrev pub plain_of : List ℕ → Packet
plain_of bytes = record {
  sec = 0;
  nsec = 0;
  wire = length bytes;
  rxhash = 0;
  protocol = (link_of bytes).protocol;
  pkttype = packet_type_of bytes None;
  addr = (link_of bytes).from;
  bytes = bytes;
  tag = None;
}
