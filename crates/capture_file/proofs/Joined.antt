-- A decoder of either format: from its decoder of one format, and from the first four bytes.
use Rattle.std.proofs.Common.{◌≡◌, ℕ, ◌-◌, ◌≤◌, ◌<◌, Bool, true, false, List, [], ◌++◌, length, take, drop, refl, sym, ap}
use Rattle.std.proofs.Common.{subst, ◌∙◌, arith, append_assoc}
use Rattle.std.specs.Prelude.{Option, None, Some, option_map, IsSomeAnd, MatchOption, Result}
use Rattle.std.specs.Result.{result_err}
use Rattle.std.proofs.lemmas.List.{append-nil, length-append}
use Rattle.frame_view.specs.declared.frames.Frame.{Frame}
use Rattle.pcapng_blocks.specs.Blocks as splits
use Rattle.pcapng_blocks.specs.Capture as pcapng
use Rattle.pcapng_blocks.specs.Decoders as blocks
use Rattle.pcapng_blocks.specs.declared.error.BlockError.{BlockError}
use Rattle.capture_file.specs.declared.error.CaptureError.{CaptureError}
use Rattle.capture_file.specs.declared.error.CaptureError.TheVariants.{Truncated}
use Rattle.capture_file.specs.declared.format_decoder.FormatDecoder.{FormatDecoder}
use Rattle.capture_file.specs.declared.format_decoder.FormatDecoder.TheVariants.{Pcapng}
use Rattle.capture_file.specs.Pcap as pcap
use Rattle.capture_file.specs.Capture.{is_pcapng, error_from, frames_of, damage_of, end_of}
use Rattle.capture_file.specs.Decoders.{frames_as, damage_as, end_as, kept_as, kept_of, reads_blocks, RepresentsAs, FeedsAs}
use Rattle.capture_file.specs.Decoders.{FeedsFrom, IsBegun, DecoderValue, Represents, RepresentsBy}
use Rattle.capture_file.proofs.Formats.{format_stays, frames_are, damage_is, end_is, brief, gathers, gathers_all}

-- ---- a decoder of blocks

pub blocks_end : (decoder : blocks.DecoderValue) (answer : Result Unit BlockError) (end : Option CaptureError)
    → blocks.IsEnd decoder answer
    → option_map error_from (result_err answer) ≡ end → (cpu : ℕ) (fed : List ℕ) → RepresentsAs cpu (Pcapng decoder) fed
    → end ≡ end_as true fed
blocks_end decoder answer end is same cpu fed represents = sym same ∙ ap (option_map error_from) (is cpu fed represents)

-- a fault translated as the code does it
pub mapped : (fault : Option BlockError) (damage : Option CaptureError)
    → MatchOption fault (damage ≡ None) (λ x. IsSomeAnd damage (λ y. y ≡ error_from x))
    → damage ≡ option_map error_from fault
mapped None damage e = e
mapped (Some fault) None e = absurd e
mapped (Some fault) (Some other) e = ap Some e

pub blocks_feed : (old new : blocks.DecoderValue) (piece : List ℕ) (fault : Option BlockError) (damage : Option CaptureError)
    (before after : List Frame)
    → blocks.RepresentsMore old new piece → blocks.AppendsNew old piece before after → blocks.IsDamage old piece fault
    → damage ≡ option_map error_from fault
    → FeedsFrom (Pcapng old) piece damage (Pcapng new) before after
blocks_feed old new piece fault damage before after represents frames is same cpu fed h = record {
  represents = represents cpu fed h;
  frames = frames cpu fed h;
  damage_is = same ∙ ap (option_map error_from) (is cpu fed h);
}

-- ---- the first four bytes, and those after them

nothing_yet : (kind : Bool) (cpu : ℕ) → frames_as kind cpu [] ≡ []
unfolding pcapng.reached_in splits.split_from splits.split_within pcap.frames_of
nothing_yet true cpu = refl
nothing_yet false cpu = refl

pub begun : (cpu : ℕ) (first rest : List ℕ) (made fed decoder : FormatDecoder) (unused damage : Option CaptureError)
    (before between after : List Frame)
    → reads_blocks made ≡ is_pcapng first → RepresentsAs cpu made []
    → FeedsFrom made first unused fed before between → reads_blocks fed ≡ reads_blocks made
    → FeedsFrom fed rest damage decoder between after → reads_blocks decoder ≡ reads_blocks fed
    → IsBegun cpu first rest decoder damage before after
begun cpu first rest made fed decoder unused damage before between after format empty one same two kept =
    let f = one cpu [] empty in
    let s = two cpu first f.represents in
    let kind : reads_blocks fed ≡ is_pcapng first = same ∙ format in
    let old : frames_as (is_pcapng first) cpu first ≡ f.frames.0 =
    ap (λ (k : Bool). frames_as k cpu first) (sym format) ∙ f.frames.2
    ∙ ap (λ (xs : List Frame). xs ++ f.frames.0) (nothing_yet (reads_blocks made) cpu) in
    let new : frames_as (is_pcapng first) cpu (first ++ rest) ≡ f.frames.0 ++ s.frames.0 =
    ap (λ (k : Bool). frames_as k cpu (first ++ rest)) (sym kind) ∙ s.frames.2
    ∙ ap (λ (k : Bool). frames_as k cpu first ++ s.frames.0) kind ∙ ap (λ (xs : List Frame). xs ++ s.frames.0) old in
    record {
      format = kept ∙ kind;
      represents = s.represents;
      frames =
          s.frames.1 ∙ ap (λ (xs : List Frame). xs ++ s.frames.0) f.frames.1 ∙ append_assoc before f.frames.0 s.frames.0
          ∙ ap (λ (xs : List Frame). before ++ xs) (sym new);
      damage_is = s.damage_is ∙ ap (λ (k : Bool). damage_as k (first ++ rest)) kind;
    }

-- ---- a decoder of either format

module _ (cpu : ℕ) (value inside : DecoderValue) (fed : List ℕ) (view : inside ≡ value)
    (represents : Represents cpu value fed) where
  told : Represents cpu inside fed
  told = subst (λ (v : DecoderValue). Represents cpu v fed) (sym view) represents

  by_format : (format : Option FormatDecoder) → inside.format ≡ format → RepresentsBy cpu inside.start format fed
  by_format format e = subst (λ (f : Option FormatDecoder). RepresentsBy cpu inside.start f fed) e told.told

  pub represents_cpu : inside.cpu ≡ cpu
  represents_cpu = told.cpu

  -- while the format isn't known
  pub not_yet : inside.format ≡ None → (inside.start ≡ fed) × (length fed < 4)
  not_yet e = by_format None e

  pub end_not_yet : inside.format ≡ None → Some (Truncated 0) ≡ end_of fed
  end_not_yet e = sym (brief cpu fed (not_yet e).1).end

  pub kept_not_yet : inside.format ≡ None → (count : ℕ) → count ≡ length inside.start → count ≡ length (kept_of fed)
  kept_not_yet e count is = is ∙ ap length ((not_yet e).0 ∙ sym (brief cpu fed (not_yet e).1).kept)

  -- once it is
  module _ (decoder : FormatDecoder) (e : inside.format ≡ Some decoder) where
    known : RepresentsBy cpu inside.start (Some decoder) fed
    known = by_format (Some decoder) e

    kind : reads_blocks decoder ≡ is_pcapng fed
    kind = known.2

    pub represents_known : RepresentsAs cpu decoder fed
    represents_known = known.3

    pub end_known : (answer : Option CaptureError) → answer ≡ end_as (reads_blocks decoder) fed → answer ≡ end_of fed
    end_known answer is = is ∙ ap (λ (k : Bool). end_as k fed) kind ∙ sym (end_is fed)

    pub kept_known : (count : ℕ) → count ≡ length (kept_as (reads_blocks decoder) fed) → count ≡ length (kept_of fed)
    kept_known count is = is ∙ ap (λ (k : Bool). length (kept_as k fed)) kind

    -- a feed keeps the format
    module _ (piece : List ℕ) (new : FormatDecoder) (damage : Option CaptureError) (before after : List Frame)
        (feeds : FeedsFrom decoder piece damage new before after) (same : reads_blocks new ≡ reads_blocks decoder) where
      now : reads_blocks decoder ≡ is_pcapng (fed ++ piece)
      now = kind ∙ sym (format_stays fed piece known.1)

      fed_on : FeedsAs decoder piece damage new before after cpu fed
      fed_on = feeds cpu fed represents_known

      pub known_represents : Represents cpu (record { cpu = inside.cpu; start = inside.start; format = Some new })
          (fed ++ piece)
      known_represents = record {
        cpu = represents_cpu;
        told = (known.0, omega (arith, known.1, length-append fed piece), same ∙ now, fed_on.represents);
      }

      pub known_frames : (more : List Frame) × (after ≡ before ++ more)
          × (frames_of cpu (fed ++ piece) ≡ frames_of cpu fed ++ more)
      known_frames = (
        fed_on.frames.0,
        fed_on.frames.1,
        frames_are cpu (fed ++ piece) ∙ ap (λ (k : Bool). frames_as k cpu (fed ++ piece)) (sym now) ∙ fed_on.frames.2
            ∙ ap (λ (k : Bool). frames_as k cpu fed ++ fed_on.frames.0) kind
            ∙ ap (λ (xs : List Frame). xs ++ fed_on.frames.0) (sym (frames_are cpu fed)),
      )

      pub known_damage : damage ≡ damage_of (fed ++ piece)
      known_damage = fed_on.damage_is ∙ ap (λ (k : Bool). damage_as k (fed ++ piece)) now ∙ sym (damage_is (fed ++ piece))

  -- the first four bytes are collected
  module _ (none : inside.format ≡ None) (few : length inside.start < 4) (piece new : List ℕ)
      (all : new ≡ inside.start ++ take (4 - length inside.start) piece) where
    -- fewer came
    module _ (less : length new < 4) where
      still : new ≡ fed ++ piece
      still = gathers inside.start piece new fed few (not_yet none).0 all less

      brief_now : length (fed ++ piece) < 4
      brief_now = subst (λ (xs : List ℕ). length xs < 4) still less

      pub waiting_represents : Represents cpu (record { cpu = inside.cpu; start = new; format = inside.format }) (fed ++ piece)
      waiting_represents = rw none (record { cpu = represents_cpu; told = (still, brief_now) })

      pub waiting_frames : (into : List Frame) → (more : List Frame) × (into ≡ into ++ more)
          × (frames_of cpu (fed ++ piece) ≡ frames_of cpu fed ++ more)
      waiting_frames into =
          let was = brief cpu fed (not_yet none).1 in
          let is = brief cpu (fed ++ piece) brief_now in
          ([], sym (append-nil into), is.frames ∙ sym was.frames ∙ sym (append-nil (frames_of cpu fed)))

      pub waiting_damage : None ≡ damage_of (fed ++ piece)
      waiting_damage = sym (brief cpu (fed ++ piece) brief_now).damage

    -- they say the format
    module _ (full : 4 ≤ length new) (rest : List ℕ) (after_is : rest ≡ drop (4 - length inside.start) piece)
        (decoder : FormatDecoder) (damage : Option CaptureError)
        (before after : List Frame) (is : IsBegun inside.cpu new rest decoder damage before after) where
      whole : new ++ rest ≡ fed ++ piece
      whole = ap (λ (xs : List ℕ). new ++ xs) after_is ∙ gathers_all inside.start piece new fed few (not_yet none).0 all

      first : is_pcapng new ≡ is_pcapng (fed ++ piece)
      first = sym (format_stays new rest full) ∙ ap is_pcapng whole

      begun_here : IsBegun cpu new rest decoder damage before after
      begun_here = subst (λ (n : ℕ). IsBegun n new rest decoder damage before after) represents_cpu is

      pub begun_represents : (start : List ℕ) → start ≡ []
          → Represents cpu (record { cpu = inside.cpu; start = start; format = Some decoder }) (fed ++ piece)
      begun_represents start empty = record {
        cpu = represents_cpu;
        told = (
          empty,
          omega (arith, full, length-append new rest, ap length whole),
          begun_here.format ∙ first,
          subst (λ (bytes : List ℕ). RepresentsAs cpu decoder bytes) whole begun_here.represents,
        );
      }

      as_first : (bytes : List ℕ) → bytes ≡ fed ++ piece → frames_as (is_pcapng new) cpu bytes ≡ frames_of cpu (fed ++ piece)
      as_first bytes e = ap (frames_as (is_pcapng new) cpu) e ∙ ap (λ (k : Bool). frames_as k cpu (fed ++ piece)) first
          ∙ sym (frames_are cpu (fed ++ piece))

      pub begun_frames : (more : List Frame) × (after ≡ before ++ more)
          × (frames_of cpu (fed ++ piece) ≡ frames_of cpu fed ++ more)
      begun_frames =
          let was = brief cpu fed (not_yet none).1 in (
            frames_as (is_pcapng new) cpu (new ++ rest),
            begun_here.frames,
            sym (as_first (new ++ rest) whole) ∙ ap (λ (xs : List Frame). xs ++ frames_as (is_pcapng new) cpu (new ++ rest))
                (sym was.frames),
          )

      pub begun_damage : damage ≡ damage_of (fed ++ piece)
      begun_damage = begun_here.damage_is ∙ ap (damage_as (is_pcapng new)) whole
          ∙ ap (λ (k : Bool). damage_as k (fed ++ piece)) first ∙ sym (damage_is (fed ++ piece))
