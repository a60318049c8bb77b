-- An output file is a capture that gives its packets back.
use Rattle.std.proofs.Common.{◌≡◌, ℕ, ◌+◌, ◌*◌, ◌^◌, ◌≤◌, ◌<◌, true, List, [], ◌∷◌, ◌++◌, length, take, drop, refl, sym, ap}
use Rattle.std.proofs.Common.{subst, ◌∙◌, inl, inr, arith, append_assoc}
use Rattle.std.specs.Prelude.{min, max, Option, None, Some, Ok}
use Rattle.std.specs.List.{flat_map, AllByRecursion}
use Rattle.std.proofs.lemmas.Bool.{cases_lt, le-ltb, lt-ltb}
use Rattle.std.proofs.lemmas.List.{append-nil, length-append, length-drop, length-take, take_at, take_all, drop_at, drop-drop}
use Rattle.byteorder.specs.Numbers.{little_number-reads_back, length-bytes_low_first}
use Rattle.frame_view.specs.Vlan.{with_tag, frame_of}
use Rattle.frame_view.specs.declared.frames.Frame.{Frame}
use Rattle.frame_view.specs.declared.frames.Packet.{Packet}
use Rattle.frame_view.specs.declared.frames.Tag.{Tag}
use Rattle.capture_file.specs.declared.format.Format.{Format}
use Rattle.pcapng_blocks.specs.declared.byte_order.Order.TheVariants.{Little}
use Rattle.capture_file.specs.declared.record_reader.Place.{Place}
use Rattle.pcapng_blocks.specs.Numbers.{number_at}
use Rattle.capture_file.specs.Pcap.{captured, record_size, begins_whole, header_of, counted, frame_of_record, frames_of}
use Rattle.capture_file.specs.Pcap.{stop_of, damage_of, end_of}
use Rattle.capture_file.specs.Output.{four_bytes, output_header, tag_size, original, record_text, output_of}
use Rattle.capture_file.specs.Feeds.{Reached, place_behind, read_from, first_place}
use Rattle.capture_file.specs.Laws.{IsWritable, frames_back}
use Rattle.capture_file.proofs.Records.{number_at-append, has_whole, header_of-append, read_from-none, read_from-step}
use Rattle.capture_file.proofs.Steps.{empty_not_whole, empty_not_oversized}
use Rattle.capture_file.proofs.Whole.{all_of, all_read_from}
use Rattle.capture_file.proofs.PcapFeeds.{damage_none}
use Rattle.capture_file.proofs.PcapOutcomes.{stop_accounts}

-- ---- numbers

length_four : (number : ℕ) → length (four_bytes number) ≡ 4
unfolding four_bytes
length_four number = length-bytes_low_first 0 4 number

-- a number that was written is read
number_back : (number : ℕ) (rest : List ℕ) → number < 2 ^ 32 → number_at Little 4 0 (four_bytes number ++ rest) ≡ number
unfolding number_at four_bytes
number_back number rest fits = little_number-reads_back 4 number rest fits

-- a number after one that was written
number_behind : (number at : ℕ) (rest : List ℕ) → number_at Little 4 (4 + at) (four_bytes number ++ rest)
    ≡ number_at Little 4 at rest
unfolding number_at
number_behind number at rest =
    let skip : drop (4 + at) (four_bytes number ++ rest) ≡ drop at rest =
    sym (drop-drop at 4 (four_bytes number ++ rest)) ∙ ap (drop at) (drop_at (four_bytes number) rest 4 (length_four number)) in
    rw skip refl

-- ---- one record

-- a record's four numbers and its bytes
module _ (sec nsec size wire : ℕ) (bytes : List ℕ) where
  text : List ℕ
  text = four_bytes sec ++ (four_bytes nsec ++ (four_bytes size ++ (four_bytes wire ++ bytes)))

  text_sec : sec < 2 ^ 32 → number_at Little 4 0 text ≡ sec
  unfolding text
  text_sec fits = number_back sec _ fits

  text_nsec : nsec < 2 ^ 32 → number_at Little 4 4 text ≡ nsec
  unfolding text
  text_nsec fits = number_behind sec 0 _ ∙ number_back nsec _ fits

  text_size : size < 2 ^ 32 → number_at Little 4 8 text ≡ size
  unfolding text
  text_size fits = number_behind sec 4 _ ∙ number_behind nsec 0 _ ∙ number_back size _ fits

  text_wire : wire < 2 ^ 32 → number_at Little 4 12 text ≡ wire
  unfolding text
  text_wire fits = number_behind sec 8 _ ∙ number_behind nsec 4 _ ∙ number_behind size 0 _ ∙ number_back wire _ fits

  text_bytes : drop 16 text ≡ bytes
  unfolding text four_bytes
  text_bytes = refl

  text_length : length text ≡ 16 + length bytes
  unfolding text four_bytes
  text_length = omega arith

-- a tag adds at most its size
tag_length : (tag : Option Tag) (bytes : List ℕ) → length (with_tag tag bytes) ≤ length bytes + tag_size tag
tag_length None bytes = omega arith
tag_length (Some tag) bytes =
    elim (cases_lt (length bytes) 12) [
      | inl short ↦ rw (lt-ltb _ _ short) (omega arith)
      | inr long ↦ rw (le-ltb _ _ long) (simp (length-append, length-take, length-drop) (omega arith))
    ]

-- how an output file is read
abbrev format : Format
format = record { order = Little; unit = 1 }

-- what a packet's record says
record Says (packet : Packet) (bytes : List ℕ) : Type 0 where
  sec : number_at Little 4 0 bytes ≡ packet.sec
  nsec : number_at Little 4 4 bytes ≡ packet.nsec
  size : number_at Little 4 8 bytes ≡ length (frame_of packet)
  wire : number_at Little 4 12 bytes ≡ original packet
  frame : drop 16 bytes ≡ frame_of packet
  long : length bytes ≡ 16 + length (frame_of packet)

says : (packet : Packet) → IsWritable packet → Says packet (record_text packet)
unfolding record_text text
says packet h =
    let few = h.frame in
    record {
      sec = text_sec packet.sec packet.nsec (length (frame_of packet)) (original packet) (frame_of packet) h.sec;
      nsec = text_nsec packet.sec packet.nsec (length (frame_of packet)) (original packet) (frame_of packet)
          (omega (arith, h.nsec));
      size = text_size packet.sec packet.nsec (length (frame_of packet)) (original packet) (frame_of packet) (omega arith);
      wire = text_wire packet.sec packet.nsec (length (frame_of packet)) (original packet) (frame_of packet) (omega arith);
      frame = text_bytes packet.sec packet.nsec (length (frame_of packet)) (original packet) (frame_of packet);
      long = text_length packet.sec packet.nsec (length (frame_of packet)) (original packet) (frame_of packet);
    }

-- the frame of a packet's record
frame_back : (cpu index : ℕ) (packet : Packet) → IsWritable packet
    → frame_of_record cpu format index (record_text packet)
    ≡ record {
      cpu = cpu;
      index = index;
      sec = packet.sec;
      nsec = packet.nsec;
      wire = original packet;
      bytes = frame_of packet;
      tag = None;
    }
unfolding frame_of_record
frame_back cpu index packet h =
    let s = says packet h in
    let nsec : min 999999999 (packet.nsec * 1) ≡ packet.nsec = omega (arith, h.nsec) in
    let wire : max (length (frame_of packet)) (original packet) ≡ original packet =
    omega (arith, tag_length packet.tag packet.bytes, h.whole, h.wire) in
    rw (s.sec, s.nsec, s.size, s.wire, s.frame, nsec, wire) refl

-- a packet's record is whole, and no byte of what follows belongs to it
record_whole : (packet : Packet) (rest : List ℕ) → IsWritable packet
    → (begins_whole Little (record_text packet ++ rest) ≡ true)
    × (record_size Little (record_text packet ++ rest) ≡ length (record_text packet))
record_whole packet rest h =
    let s = says packet h in
    let few = h.frame in
    let size : captured Little (record_text packet ++ rest) ≡ length (frame_of packet) =
    number_at-append Little 4 8 (record_text packet) rest (omega (arith, s.long)) ∙ s.size in
    let len = length-append (record_text packet) rest in (
      has_whole Little (record_text packet ++ rest)
          (record { header = omega (arith, s.long); small = rw size few; here = rw size (omega (arith, s.long)) }),
      rw size (sym s.long),
    )

-- ---- all records

record ReadsBack (frames : List Frame) (reached : Reached) : Type 0 where
  all : reached.frames ≡ frames
  left : reached.left ≡ []

reads_back : (cpu : ℕ) (next : Place) (frames : List Frame) (packets : List Packet) → AllByRecursion IsWritable packets
    → ReadsBack (frames ++ frames_back cpu next.index packets) (read_from cpu format next frames (flat_map record_text packets))
reads_back cpu next frames [] h =
    rw (read_from-none cpu format next frames [] (empty_not_whole Little))
    (record { all = sym (append-nil frames); left = refl })
reads_back cpu next frames (packet ∷ packets) h =
    let text = record_text packet in
    let rest = flat_map record_text packets in
    let whole = record_whole packet rest h.0 in
    let front : take (record_size Little (text ++ rest)) (text ++ rest) ≡ text =
    rw whole.1 (take_at text rest (length text) refl) in
    let back : drop (record_size Little (text ++ rest)) (text ++ rest) ≡ rest =
    rw whole.1 (drop_at text rest (length text) refl) in
    let step = read_from-step cpu format next frames (text ++ rest) whole.0 in
    let read : read_from cpu format next frames (text ++ rest)
    ≡ read_from cpu format (place_behind next text) (frames ++ frame_of_record cpu format next.index text ∷ []) rest =
    step ∙ rw (front, back) refl in
    let h2 = reads_back cpu (place_behind next text) (frames ++ frame_of_record cpu format next.index text ∷ []) packets h.1 in
    let group = append_assoc frames (frame_of_record cpu format next.index text ∷ [])
    (frames_back cpu (next.index + 1) packets) in
    rw read (record { all = h2.all ∙ group ∙ rw (frame_back cpu next.index packet h.0) refl; left = h2.left })

-- ---- the whole file

length_header : length output_header ≡ 24
unfolding output_header four_bytes
length_header = refl

header_alone : header_of output_header ≡ Ok format
unfolding header_of number_at output_header four_bytes
header_alone = refl

module _ (packets : List Packet) (h : AllByRecursion IsWritable packets) (few : length (output_of packets) ≤ 33554432) where
  output_full : 24 ≤ length (output_of packets)
  unfolding output_of
  output_full = omega (arith, length_header, length-append output_header (flat_map record_text packets))

  output_passed : header_of (output_of packets) ≡ Ok format
  unfolding output_of
  output_passed = header_of-append output_header (flat_map record_text packets) (omega (arith, length_header)) ∙ header_alone

  output_all : counted (output_of packets) ≡ output_of packets
  output_all = take_all 33554432 (output_of packets) few

  output_body : drop 24 (output_of packets) ≡ flat_map record_text packets
  unfolding output_of
  output_body = drop_at output_header (flat_map record_text packets) 24 length_header

  output_read : (cpu : ℕ) → ReadsBack (frames_back cpu 0 packets) (all_of cpu (output_of packets))
  output_read cpu =
      let body : drop 24 (counted (output_of packets)) ≡ flat_map record_text packets = ap (drop 24) output_all ∙ output_body in
      let read : read_from cpu format first_place [] (flat_map record_text packets) ≡ all_of cpu (output_of packets) =
      ap (read_from cpu format first_place []) (sym body)
      ∙ all_read_from cpu format (output_of packets) output_full output_passed in
      subst (λ (r : Reached). ReadsBack (frames_back cpu 0 packets) r) read (reads_back cpu first_place [] packets h)

  pub output_frames : (cpu : ℕ) → frames_of cpu (output_of packets) ≡ frames_back cpu 0 packets
  output_frames cpu = (output_read cpu).all

  output_left : drop (stop_of (output_of packets)) (output_of packets) ≡ []
  output_left = ap (drop (stop_of (output_of packets))) (sym output_all) ∙ (output_read 0).left

  output_sound : damage_of (output_of packets) ≡ None
  output_sound = damage_none format (output_of packets) output_full output_passed
      (rw ((output_read 0).left) (empty_not_oversized Little)) (le-ltb _ _ few)

  pub output_end : end_of (output_of packets) ≡ None
  unfolding end_of
  output_end =
      let sum = stop_accounts 0 format (output_of packets) output_full output_passed output_sound in
      let whole : length (output_of packets) ≤ stop_of (output_of packets) = omega (arith, sum, ap length output_left) in
      rw (output_sound, le-ltb _ _ output_full, le-ltb _ _ whole) refl
