-- What the headers of a frame say. Places are counted in bytes from 0; fields are in network order.
use Rattle.std.specs.Prelude.{ℕ, ◌+◌, ◌*◌, ◌/◌, ◌%◌, Bool, false, ◌&&◌, ◌||◌, List, [], ◌∷◌, length}
use Rattle.std.specs.Prelude.{slice_index, nat_lt, nat_le, ◌==◌, true, if◌then◌else◌, bytes_eq}
use Rattle.std.specs.Prelude.{Option, None, Some, replicate}
pub use Rattle.frame_view.specs.Numbers.{u16_at, u32_at, u128_at}
use Rattle.frame_view.specs.declared.headers.Headers.{Headers}
use Rattle.frame_view.specs.declared.headers.Headers.TheVariants.{Runt, Plain, V4, V6}
use Rattle.frame_view.specs.declared.headers.Link.{Link}
use Rattle.frame_view.specs.declared.ip_headers.V4Part.{V4Part}
use Rattle.frame_view.specs.declared.ip_headers.V6Part.{V6Part}

-- the six bytes of a link address from a place
abbrev pub address_of : ℕ → List ℕ → List ℕ
address_of at bytes =
    slice_index bytes at ∷ slice_index bytes (at + 1) ∷ slice_index bytes (at + 2)
    ∷ slice_index bytes (at + 3) ∷ slice_index bytes (at + 4) ∷ slice_index bytes (at + 5) ∷ []

-- the type field; below 0x0600 it is a length, and two bytes of 0xff after it tell raw IPX (1) from
-- 802.2 (4)
abbrev pub protocol_of : List ℕ → ℕ
protocol_of bytes =
    if nat_lt (u16_at 12 bytes) 0x0600
    then (if nat_lt 15 (length bytes) && (u16_at 14 bytes == 0xffff) then 0x0001 else 0x0004)
    else u16_at 12 bytes

-- the link header: destination, source, protocol
abbrev pub link_of : List ℕ → Link
link_of bytes = record {
  to = address_of 0 bytes;
  from = address_of 6 bytes;
  protocol = protocol_of bytes;
}

-- the two numbers from a place, if the next protocol is TCP or UDP and they are captured
abbrev pub ports_at : ℕ → ℕ → List ℕ → Option (ℕ × ℕ)
ports_at at next bytes =
    if ((next == 6) || (next == 17)) && nat_le (at + 4) (length bytes)
    then Some (u16_at at bytes, u16_at (at + 2) bytes)
    else None

-- the length of the IPv4 header in bytes: its low half of a byte counts words of four
abbrev pub header_of : List ℕ → ℕ
header_of bytes = 4 * (slice_index bytes 14 % 16)

-- whether a whole IPv4 header follows the link header, and its total length isn't below its own
abbrev pub is_v4 : List ℕ → Bool
is_v4 bytes =
    if nat_lt (length bytes) 34 then false
    else (u16_at 12 bytes == 0x0800)
    && (slice_index bytes 14 / 16 == 4)
    && nat_le 20 (header_of bytes)
    && nat_le (14 + header_of bytes) (length bytes) && nat_le (header_of bytes) (u16_at 16 bytes)

-- more fragments follow: the bit 0x2000 of the two bytes of flags and offset
abbrev pub more_of : List ℕ → Bool
more_of bytes = u16_at 20 bytes / 0x2000 % 2 == 1

-- the place of the fragment's data in its datagram, in units of eight bytes
abbrev pub offset_of : List ℕ → ℕ
offset_of bytes = u16_at 20 bytes % 0x2000

-- the ports of an IPv4 packet, which a fragment doesn't have
abbrev pub v4_ports : List ℕ → Option (ℕ × ℕ)
v4_ports bytes =
    if more_of bytes || nat_lt 0 (offset_of bytes) then None
    else ports_at (14 + header_of bytes) (slice_index bytes 23) bytes

-- the fields of the IPv4 header
abbrev pub v4_of : List ℕ → V4Part
v4_of bytes = record {
  header = header_of bytes;
  total = u16_at 16 bytes;
  ident = u16_at 18 bytes;
  more = more_of bytes;
  offset = offset_of bytes;
  next = slice_index bytes 23;
  from = u32_at 26 bytes;
  to = u32_at 30 bytes;
  ports = v4_ports bytes;
}

-- whether a whole IPv6 header follows the link header
abbrev pub is_v6 : List ℕ → Bool
is_v6 bytes =
    if nat_lt (length bytes) 54 then false
    else (u16_at 12 bytes == 0x86dd) && (slice_index bytes 14 / 16 == 6)

-- the fields of the IPv6 header, and the ports after it
abbrev pub v6_of : List ℕ → V6Part
v6_of bytes = record {
  next = slice_index bytes 20;
  from = u128_at 22 bytes;
  to = u128_at 38 bytes;
  ports = ports_at 54 (slice_index bytes 20) bytes;
}

-- a frame of fewer than 14 bytes is a runt; an IPv4 or an IPv6 header may follow a whole link
-- header
abbrev pub view_of : List ℕ → Headers
view_of bytes =
    if nat_lt (length bytes) 14 then Runt
    else if is_v4 bytes then V4 (link_of bytes) (v4_of bytes)
    else if is_v6 bytes then V6 (link_of bytes) (v6_of bytes)
    else Plain (link_of bytes)

-- whether the frame is for this station: every frame is if no own address is given
abbrev pub is_own : Option (List ℕ) → List ℕ → Bool
is_own None to = true
is_own (Some own) to = bytes_eq to own

-- 1 broadcast, 2 multicast (the lowest bit of the first byte is set), 0 this host, 3 another host
abbrev pub packet_type_of : List ℕ → Option (List ℕ) → ℕ
packet_type_of bytes own =
    if bytes_eq (address_of 0 bytes) (replicate 6 0xff) then 1
    else if slice_index bytes 0 % 2 == 1 then 2
    else if is_own own (address_of 0 bytes) then 0
    else 3
