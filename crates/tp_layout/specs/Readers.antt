-- How the readers of blocks report their answers.
use Rattle.std.specs.Prelude.{◌≡◌, ℕ, List, [], ◌∷◌, ◌++◌, Option, None, Some}
use Rattle.std.specs.Prelude.{Result, Ok, Err}
use Rattle.frame_view.specs.declared.frames.Packet.{Packet}
use Rattle.tp_layout.specs.declared.requests.RingRequest.{RingRequest}
use Rattle.tp_layout.specs.declared.error.LayoutError.{LayoutError}
use Rattle.tp_layout.specs.declared.packet_refs.PacketRef.{PacketRef}
use Rattle.tp_layout.specs.Blocks.{IsLawful, block_text}

-- the text is exactly a lawful one of these packets
abbrev pub IsTextOf : RingRequest → List ℕ → List Packet → Type 0
IsTextOf shape text packets =
    (number : ℕ)
    × (status : ℕ)
    × IsLawful shape number status packets
    × (text ≡ block_text shape number status packets)

-- the fault that an answer reports, if it reports one
abbrev pub told : {X : Type 0} → Result X LayoutError → Option LayoutError
told (Ok x) = None
told (Err fault) = Some fault

-- a packet read in place, as a packet
abbrev pub seen : PacketRef → Packet
seen packet = record {
  sec = packet.sec;
  nsec = packet.nsec;
  wire = packet.wire;
  rxhash = packet.rxhash;
  protocol = packet.protocol;
  pkttype = packet.pkttype;
  addr = packet.addr;
  bytes = packet.bytes.now;
  tag = packet.tag;
}

-- the data of packets, one after another
unfoldable pub data_of : List Packet → List ℕ
data_of [] = []
data_of (packet ∷ packets) = packet.bytes ++ data_of packets
