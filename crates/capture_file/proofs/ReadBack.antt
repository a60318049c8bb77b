-- An output file is a capture that gives its packets back.
use Rattle.std.proofs.Common.{◌≡◌, ℕ, ◌≤◌, Bool, false, List, length, refl, ap, ◌∙◌, arith}
use Rattle.std.specs.Prelude.{None}
use Rattle.std.specs.List.{flat_map, AllByRecursion}
use Rattle.frame_view.specs.declared.frames.Packet.{Packet}
use Rattle.capture_file.specs.Capture.{is_pcapng, frames_of, end_of}
use Rattle.capture_file.specs.Decoders.{frames_as, end_as}
use Rattle.capture_file.specs.Output.{four_bytes, output_header, record_text, output_of}
use Rattle.capture_file.specs.Laws.{IsWritable, frames_back}
use Rattle.capture_file.proofs.Formats.{format_stays, frames_are, end_is}
use Rattle.capture_file.proofs.PcapReadBack as records

header_long : 4 ≤ length output_header
unfolding output_header four_bytes
header_long = omega arith

header_pcap : is_pcapng output_header ≡ false
unfolding is_pcapng output_header four_bytes
header_pcap = refl

-- an output begins with no section header
pub output_pcap : (packets : List Packet) → is_pcapng (output_of packets) ≡ false
unfolding output_of
output_pcap packets = format_stays output_header (flat_map record_text packets) header_long ∙ header_pcap

module _ (packets : List Packet) (h : AllByRecursion IsWritable packets) (few : length (output_of packets) ≤ 33554432) where
  pub output_frames : (cpu : ℕ) → frames_of cpu (output_of packets) ≡ frames_back cpu 0 packets
  output_frames cpu =
      frames_are cpu (output_of packets) ∙ ap (λ (kind : Bool). frames_as kind cpu (output_of packets)) (output_pcap packets)
      ∙ records.output_frames packets h few cpu

  pub output_end : end_of (output_of packets) ≡ None
  output_end = end_is (output_of packets) ∙ ap (λ (kind : Bool). end_as kind (output_of packets)) (output_pcap packets)
      ∙ records.output_end packets h few
