-- A UDP datagram in one IPv4 packet in an Ethernet frame, byte for byte.
use Rattle.std.specs.Prelude.{ℕ, ◌+◌, List, ◌∷◌, ◌++◌, length, false, Some}
use Rattle.std.specs.Int.{to_be_bytes, w16, w32}
use Rattle.frame_view.specs.InternetChecksum.{checksum_of}
use Rattle.frame_view.specs.declared.frame_parts.Parts.{Parts}
use Rattle.frame_view.specs.declared.headers.Headers.{Headers}
use Rattle.frame_view.specs.declared.headers.Headers.TheVariants.{V4}

-- the Ethernet header, with the type of IPv4
unfoldable pub link_bytes : Parts → List ℕ
link_bytes parts = parts.to ++ (parts.from ++ to_be_bytes w16 0x0800)

-- the IPv4 header with a given checksum: 20 bytes, don't fragment (0x4000), time to live 64,
-- protocol 17
unfoldable pub ip_bytes : Parts → ℕ → List ℕ
ip_bytes parts checksum =
    0x45 ∷ 0 ∷ (to_be_bytes w16 (28 + length parts.payload) ++ (to_be_bytes w16 parts.ident
    ++ (to_be_bytes w16 0x4000 ++ (64 ∷ 17 ∷ (to_be_bytes w16 checksum
    ++ (to_be_bytes w32 parts.source ++ to_be_bytes w32 parts.dest))))))

-- the UDP header over a payload of some length, without a checksum (0)
unfoldable pub udp_bytes : ℕ → ℕ → ℕ → List ℕ
udp_bytes sport dport payload =
    to_be_bytes w16 sport ++ (to_be_bytes w16 dport
    ++ (to_be_bytes w16 (8 + payload) ++ to_be_bytes w16 0))

-- the header's checksum is that of the header with a checksum of 0
unfoldable pub ip_checksum : Parts → ℕ
ip_checksum parts = checksum_of (ip_bytes parts 0)

-- the whole frame
unfoldable pub built : Parts → List ℕ
built parts =
    link_bytes parts ++ (ip_bytes parts (ip_checksum parts)
    ++ (udp_bytes parts.sport parts.dport (length parts.payload) ++ parts.payload))

-- what the headers of that frame say
abbrev pub headers_of : Parts → Headers
headers_of parts = V4
    (record { to = parts.to; from = parts.from; protocol = 0x0800 })
    (record {
      header = 20;
      total = 28 + length parts.payload;
      ident = parts.ident;
      more = false;
      offset = 0;
      next = 17;
      from = parts.source;
      to = parts.dest;
      ports = Some (parts.sport, parts.dport);
    })
