-- What holds of each frame of a capture, and what an output file gives back.
use Rattle.std.specs.Prelude.{◌≡◌, ℕ, ◌+◌, ◌^◌, ◌<◌, ◌≤◌, List, [], ◌∷◌, length, All, None}
use Rattle.frame_view.specs.Vlan.{frame_of}
use Rattle.frame_view.specs.declared.frames.Frame.{Frame}
use Rattle.frame_view.specs.declared.frames.Packet.{Packet}
use Rattle.capture_file.specs.Output.{original}

-- frame number `index` of the capture of a CPU, as the decoder gives it
pub record IsNumbered (number index : ℕ) (frame : Frame) : Type 0 where
  pub cpu : frame.cpu ≡ number
  pub place : frame.index ≡ index
  pub tag : frame.tag ≡ None

-- a fraction below a second, and no more bytes than were on the wire and than 262,144
pub record IsCaptured (frame : Frame) : Type 0 where
  pub nsec : frame.nsec ≤ 999999999
  pub wire : length frame.bytes ≤ frame.wire
  pub few : length frame.bytes ≤ 262144

-- each number has 32 bits, and each byte is a byte
pub record FitsFrame (frame : Frame) : Type 0 where
  pub cpu : frame.cpu < 2 ^ 32
  pub index : frame.index < 2 ^ 32
  pub sec : frame.sec < 2 ^ 32
  pub wire : frame.wire < 2 ^ 32
  pub bytes : All (λ byte. byte < 256) frame.bytes

-- a packet whose record says what it is
pub record IsWritable (packet : Packet) : Type 0 where
  pub sec : packet.sec < 2 ^ 32
  pub nsec : packet.nsec ≤ 999999999
  pub whole : length packet.bytes ≤ packet.wire
  pub wire : packet.wire ≤ 4294967291
  pub frame : length (frame_of packet) ≤ 262144

-- the frames of packets, numbered from `index`, with their times and original lengths
abbrev pub frames_back : ℕ → ℕ → List Packet → List Frame
frames_back cpu index [] = []
frames_back cpu index (packet ∷ packets) =
    record {
      cpu = cpu;
      index = index;
      sec = packet.sec;
      nsec = packet.nsec;
      wire = original packet;
      bytes = frame_of packet;
      tag = None;
    }
    ∷ frames_back cpu (index + 1) packets
