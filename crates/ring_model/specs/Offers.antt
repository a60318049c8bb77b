-- The offer that an arrival makes, and the packet that an offer becomes.
use Rattle.std.specs.Prelude.{ℕ, ◌-◌, ◌<◌, ◌≤◌, Bool, List, length, take, if◌then◌else◌, IfSome}
use Rattle.std.specs.Prelude.{IsTrue, Option}
use Rattle.frame_view.specs.Headers.{address_of, packet_type_of, protocol_of}
use Rattle.frame_view.specs.Vlan.{is_tpid}
use Rattle.frame_view.specs.declared.frames.Frame.{Frame}
use Rattle.frame_view.specs.declared.frames.Packet.{Packet}
use Rattle.frame_view.specs.declared.frames.Tag.{Tag}
use Rattle.ring_model.specs.Sizes.{need_of, snap_of}
use Rattle.ring_model.specs.declared.notes.Offer.{Offer}

-- the offer of an arrival, for blocks with this room and a station with this address
abbrev pub offer_of : ℕ → Option (List ℕ) → ℕ → ℕ → Frame → Offer
offer_of room own hash verdict frame = record {
  frame = frame;
  snap = snap_of room (length frame.bytes) verdict;
  hash = hash;
  pkttype = packet_type_of frame.bytes own;
}

-- the packet of an offer; it has the hash where the ring is asked to fill it in
abbrev pub packet_of : Bool → Offer → Packet
packet_of fill offer = record {
  sec = offer.frame.sec;
  nsec = offer.frame.nsec;
  wire = offer.frame.wire;
  rxhash = if fill then offer.hash else 0;
  protocol = protocol_of offer.frame.bytes;
  pkttype = offer.pkttype;
  addr = address_of 6 offer.frame.bytes;
  bytes = take offer.snap offer.frame.bytes;
  tag = offer.frame.tag;
}

-- an offer that a ring whose blocks have this room takes
pub record IsSound (block_room : ℕ) (offer : Offer) : Type 0 where
  pub some : 0 < offer.snap
  pub captured : offer.snap ≤ length offer.frame.bytes
  pub wire : length offer.frame.bytes ≤ offer.frame.wire
  pub no_runt : 14 ≤ length offer.frame.bytes
  pub room : offer.snap ≤ block_room - 82
  pub nsec : offer.frame.nsec ≤ 999999999
  pub pkttype : offer.pkttype ≤ 3
  pub tag : IfSome offer.frame.tag (λ tag. IsTrue (is_tpid tag.tpid))
