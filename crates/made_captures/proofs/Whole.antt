-- A made capture is whole: it is short, and its packets can be written.
use Rattle.std.proofs.Common.{◌≡◌, ℕ, zero, suc, ◌+◌, ◌*◌, ◌^◌, ◌%◌, ◌<◌, ◌≤◌, List, [], ◌∷◌, length, refl, ap, ◌∙◌, inl, inr}
use Rattle.std.proofs.Common.{arith}
use Rattle.std.specs.Prelude.{All, None, map}
use Rattle.std.specs.List.{AllByRecursion, flat_map, range_with_len}
use Rattle.std.proofs.lemmas.Bool.{cases_eq, eq-eqb, ne_eqb}
use Rattle.std.proofs.lemmas.List.{length-append}
use Rattle.std.proofs.lemmas.List.Elements.{All-cons, All-nil, recursion_from_All}
use Rattle.capture_file.specs.Capture.{frames_of, end_of}
use Rattle.capture_file.specs.Laws.{IsWritable, frames_back}
use Rattle.capture_file.specs.Output.{four_bytes, original, output_header, output_of, record_text}
use Rattle.capture_file.proofs.ReadBack.{output_end, output_frames}
use Rattle.frame_maker.specs.Made.{IsMade, after_frame, made, made_frame, made_from}
use Rattle.frame_maker.proofs.Each.{All-made, length-made}
use Rattle.frame_view.specs.declared.frames.Frame.{Frame}
use Rattle.made_captures.specs.Made.{as_captured, capture_for, given_from, given_to, made_captures, packet_of, packets_for}
use Rattle.made_captures.proofs.Dealt.{all-given}

-- ---- the time of a made frame fits its field

abbrev IsEarly : Frame → Type 0
IsEarly frame = frame.sec < 2 ^ 32

all-early : (n i state : ℕ) → i + n ≤ 20000 → AllByRecursion IsEarly (made_from n i state)
unfolding made_from made_frame
all-early zero i state few = tt
all-early (suc n) i state few = (omega arith, all-early n (i + 1) (after_frame state) (omega arith))

made-early : (seed count : ℕ) → count ≤ 20000 → AllByRecursion IsEarly (made seed count)
unfolding made
made-early seed count few = all-early count 0 seed (omega arith)

-- ---- each packet can be written

writable : (frames : List Frame) → AllByRecursion IsMade frames → AllByRecursion IsEarly frames
    → AllByRecursion IsWritable (map packet_of frames)
writable [] all early = tt
writable (frame ∷ frames) all early =
    let is = all.0 in (
      record {
        sec = early.0;
        nsec = is.time;
        whole = omega (arith, is.whole);
        wire = omega (arith, is.whole, is.short);
        frame = omega (arith, is.short);
      },
      writable frames all.1 early.1,
    )

-- ---- the output file is short

length-record : (frame : Frame) → length (record_text (packet_of frame)) ≡ 16 + length frame.bytes
unfolding record_text four_bytes
length-record frame = omega arith

length-records : (frames : List Frame) → AllByRecursion IsMade frames
    → length (flat_map record_text (map packet_of frames)) ≤ 1458 * length frames
length-records [] all = omega arith
length-records (frame ∷ frames) all =
    let rest = flat_map record_text (map packet_of frames) in
    omega (
      arith,
      length-append (record_text (packet_of frame)) rest,
      length-record frame,
      all.0.short,
      length-records frames all.1,
    )

length-header : length output_header ≡ 24
unfolding output_header four_bytes
length-header = refl

length-given : (cpus cpu i : ℕ) (frames : List Frame) → length (given_from cpus cpu i frames) ≤ length frames
unfolding given_from
length-given cpus cpu i [] = omega arith
length-given cpus cpu i (frame ∷ frames) = elim (cases_eq (i % cpus) cpu) [
  | inl here ↦ rw (eq-eqb _ cpu here) (omega (arith, length-given cpus cpu (i + 1) frames))
  | inr past ↦ rw (ne_eqb _ cpu past) (omega (arith, length-given cpus cpu (i + 1) frames))
]

-- ---- the frames come back

back : (number index : ℕ) (frames : List Frame) → AllByRecursion IsMade frames
    → frames_back number index (map packet_of frames) ≡ as_captured number index frames
back number index [] all = refl
back number index (frame ∷ frames) all =
    let is = all.0 in
    let wire : original (packet_of frame) ≡ frame.wire = omega (arith, is.whole, is.short) in
    ap (λ n. record frame { cpu = number; index = index; wire = n; tag = None }
    ∷ frames_back number (index + 1) (map packet_of frames)) wire
    ∙ ap (λ (fs : List Frame). record frame { cpu = number; index = index; tag = None } ∷ fs)
    (back number (index + 1) frames all.1)

module _ (seed count cpus cpu : ℕ) (few : count ≤ 20000) where
  given : List Frame
  given = given_from cpus cpu 0 (made seed count)

  given-made : AllByRecursion IsMade given
  unfolding given
  given-made = all-given IsMade cpus cpu 0 (made seed count) (recursion_from_All IsMade (made seed count) (All-made seed count))

  given-early : AllByRecursion IsEarly given
  unfolding given
  given-early = all-given IsEarly cpus cpu 0 (made seed count) (made-early seed count few)

  packets-writable : AllByRecursion IsWritable (packets_for cpus (made seed count) cpu)
  unfolding given
  packets-writable = writable given given-made given-early

  capture-short : length (output_of (packets_for cpus (made seed count) cpu)) ≤ 33554432
  unfolding given output_of
  capture-short =
      omega (
        arith,
        length-append output_header (flat_map record_text (packets_for cpus (made seed count) cpu)),
        length-header,
        length-records given given-made,
        length-given cpus cpu 0 (made seed count),
        length-made seed count,
      )

  pub capture-ends : end_of (capture_for seed count cpus cpu) ≡ None
  unfolding capture_for
  capture-ends = output_end (packets_for cpus (made seed count) cpu) packets-writable capture-short

  pub capture-frames : (number : ℕ) → frames_of number (capture_for seed count cpus cpu)
      ≡ as_captured number 0 (given_to cpus cpu (made seed count))
  unfolding capture_for given
  capture-frames number =
      output_frames (packets_for cpus (made seed count) cpu) packets-writable capture-short number
      ∙ back number 0 given given-made

-- and the same for all CPUs
all_end : (seed count cpus from n : ℕ) → count ≤ 20000
    → All (λ text. end_of text ≡ None) (map (capture_for seed count cpus) (range_with_len from n))
all_end seed count cpus from zero few = All-nil (λ (text : List ℕ). end_of text ≡ None)
all_end seed count cpus from (suc n) few =
    All-cons (λ (text : List ℕ). end_of text ≡ None) (capture_for seed count cpus from)
    (map (capture_for seed count cpus) (range_with_len (from + 1) n))
    (capture-ends seed count cpus from few) (all_end seed count cpus (from + 1) n few)

pub captures-end : (seed count cpus : ℕ) → count ≤ 20000 → All (λ text. end_of text ≡ None) (made_captures seed count cpus)
unfolding made_captures
captures-end seed count cpus few = all_end seed count cpus 0 cpus few
