-- The result of frames that are sent through a transmit ring. Lengths are in bytes.
use Rattle.std.specs.Prelude.{ℕ, ◌+◌, ◌-◌, ◌^◌, Bool, ◌&&◌, ◌==◌, nat_le, nat_lt, if◌then◌else◌}
use Rattle.std.specs.Prelude.{is_some, List, [], ◌∷◌, ◌++◌, length, min, take, Option, None, Some}
use Rattle.frame_view.specs.PlainPacket.{plain_of}
use Rattle.frame_view.specs.declared.frames.Frame.{Frame}
use Rattle.frame_view.specs.declared.frames.Packet.{Packet}
use Rattle.tx_ring.specs.Rings.{after_place, request_of, room_of}
use Rattle.tx_ring.specs.Sends.{after_send, bad_in, packets_sent, taken_by}
use Rattle.tx_ring.specs.Slots.{Request}
use Rattle.tx_ring.specs.declared.transmission.Transmitted.{Transmitted}
use Rattle.tx_ring.specs.declared.transmission.Transmitter.{Transmitter}

-- a frame with fewer bytes than an Ethernet header
abbrev pub is_runt : Frame → Bool
is_runt frame = nat_lt (length frame.bytes) 14

-- a frame that is longer than what fits after the header of a slot
abbrev pub is_long : ℕ → Frame → Bool
is_long room frame = nat_lt room (length frame.bytes)

-- a frame of 14 bytes to as many as fit
abbrev pub is_fitting : ℕ → Frame → Bool
is_fitting room frame = nat_le 14 (length frame.bytes) && nat_le (length frame.bytes) room

-- the packets of the frames that fit
abbrev pub plain_packets : ℕ → List Frame → List Packet
plain_packets room [] = []
plain_packets room (frame ∷ frames) =
    if is_fitting room frame then plain_of frame.bytes ∷ plain_packets room frames
    else plain_packets room frames

-- the number of the longer frames
abbrev pub long_in : ℕ → List Frame → ℕ
long_in room [] = 0
long_in room (frame ∷ frames) =
    if is_long room frame then long_in room frames + 1 else long_in room frames

-- the frames before the first longer one
abbrev pub before_long : ℕ → List Frame → List Frame
before_long room [] = []
before_long room (frame ∷ frames) =
    if is_long room frame then [] else frame ∷ before_long room frames

-- the number in its capture of the first longer frame
abbrev pub first_long : ℕ → List Frame → Option ℕ
first_long room [] = None
first_long room (frame ∷ frames) =
    if is_long room frame then Some frame.index else first_long room frames

-- the frames whose packets are sent: with `skip_bad` the longer ones are skipped, otherwise the
-- first of them stops the ring
abbrev pub reached : ℕ → Bool → List Frame → List Frame
reached room skip frames = if skip then frames else before_long room frames

-- the result of frames
abbrev pub transmitted_of : ℕ → Bool → List Frame → Transmitted
transmitted_of room skip frames = record {
  packets = plain_packets room (reached room skip frames);
  sent = length (plain_packets room (reached room skip frames));
  skipped = if skip then long_in room frames else 0;
  stop = if skip then None else first_long room frames;
}

-- what is placed of a frame: all of it, or of a longer one its length and the first bytes, as many
-- as fit
abbrev pub request_for : ℕ → List ℕ → Request
request_for room bytes =
    if nat_lt room (length bytes)
    then request_of 0 (min (length bytes) (2 ^ 32 - 1)) (take room bytes)
    else request_of 0 (length bytes) bytes

-- what is placed of frames, without the runts
abbrev pub requests_of : ℕ → List Frame → List Request
requests_of room [] = []
requests_of room (frame ∷ frames) =
    if is_runt frame then requests_of room frames
    else request_for room frame.bytes ∷ requests_of room frames

-- a run after one send
abbrev pub sent_once : Transmitter → Transmitter
sent_once run = record {
  ring = after_send run.ring;
  packets = run.packets ++ packets_sent run.ring;
  skipped = run.skipped + bad_in (room_of run.ring.shape) (taken_by run.ring);
}

-- a run in which a frame was placed, if the ring takes it
abbrev pub placed_in : Transmitter → List ℕ → Transmitter
placed_in run bytes = record run {
  ring = after_place run.ring (request_for (room_of run.ring.shape) bytes);
}

-- a run with room for a frame: if all slots are requested it sends first
abbrev pub with_room : Transmitter → Transmitter
with_room run = if length run.ring.requests == run.ring.shape.frame_nr then sent_once run else run

-- a run that was given a frame
abbrev pub with_frame : Transmitter → Frame → Transmitter
with_frame run frame = if is_runt frame then run else placed_in (with_room run) frame.bytes

-- what a run reports of the frames that it was given
abbrev pub told_of : Transmitter → List Frame → Transmitted
told_of run frames = record {
  packets = run.packets;
  sent = length run.packets;
  skipped = run.skipped;
  stop = if is_some run.ring.stopped then first_long (room_of run.ring.shape) frames else None;
}
