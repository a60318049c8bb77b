-- A large valid input that a seed makes: captures, and a schedule that replays them.
use Rattle.std.specs.Prelude.{ℕ, ◌+◌, ◌%◌, ◌==◌, ◌≤◌, if◌then◌else◌, List, [], ◌∷◌, length, map}
use Rattle.std.specs.Prelude.{All, None}
use Rattle.std.specs.List.{flat_map, range_with_len}
use Rattle.capture_file.specs.Output.{output_of}
use Rattle.frame_maker.specs.Made.{made}
use Rattle.frame_view.specs.PlainPacket.{plain_of}
use Rattle.frame_view.specs.declared.frames.Frame.{Frame}
use Rattle.frame_view.specs.declared.frames.Packet.{Packet}
use Rattle.setup_text.specs.declared.lines.Line.{Line}
use Rattle.setup_text.specs.declared.lines.Line.TheVariants.{Feed, Read}

-- those of frames, the first of which has number i, that a CPU gets: those whose number modulo the
-- number of CPUs is its own
unfoldable pub given_from : ℕ → ℕ → ℕ → List Frame → List Frame
given_from cpus cpu i [] = []
given_from cpus cpu i (frame ∷ frames) =
    if i % cpus == cpu then frame ∷ given_from cpus cpu (i + 1) frames
    else given_from cpus cpu (i + 1) frames

-- those of all frames, numbered from 0, that a CPU gets
abbrev pub given_to : ℕ → ℕ → List Frame → List Frame
given_to cpus cpu frames = given_from cpus cpu 0 frames

-- a frame as a packet: its time, its length on the wire and its bytes
abbrev pub packet_of : Frame → Packet
packet_of frame =
    record (plain_of frame.bytes) { sec = frame.sec; nsec = frame.nsec; wire = frame.wire }

-- frames as the capture of a CPU gives them back: with its number, and with their places from this
-- one up
abbrev pub as_captured : ℕ → ℕ → List Frame → List Frame
as_captured cpu index [] = []
as_captured cpu index (frame ∷ frames) =
    record frame { cpu = cpu; index = index; tag = None } ∷ as_captured cpu (index + 1) frames

-- the packets of a CPU
abbrev pub packets_for : ℕ → List Frame → ℕ → List Packet
packets_for cpus frames cpu = map packet_of (given_to cpus cpu frames)

-- the capture of a CPU: the output file of its frames
unfoldable pub capture_for : ℕ → ℕ → ℕ → ℕ → List ℕ
capture_for seed count cpus cpu = output_of (packets_for cpus (made seed count) cpu)

-- the captures of all CPUs, from 0 up
unfoldable pub made_captures : ℕ → ℕ → ℕ → List (List ℕ)
made_captures seed count cpus = map (capture_for seed count cpus) (range_with_len 0 cpus)

-- two reads of each member, from 0 up
unfoldable pub read_lines : ℕ → List Line
read_lines members = flat_map (λ member. Read member ∷ Read member ∷ []) (range_with_len 0 members)

-- feed number i, from 0, and after every 64th the reads
unfoldable pub feed_lines : ℕ → ℕ → ℕ → List Line
feed_lines cpus members i = Feed (i % cpus) ∷ (if (i + 1) % 64 == 0 then read_lines members else [])

-- the schedule of `count` frames
unfoldable pub made_lines : ℕ → ℕ → ℕ → List Line
made_lines count cpus members = flat_map (feed_lines cpus members) (range_with_len 0 count)

-- packets that an output file can be written from
abbrev pub AreShort : List Packet → Type 0
AreShort packets = All (λ packet. length packet.bytes ≤ 4294967291) packets
