-- The format of a capture, and what its bytes say in it.
use Rattle.std.proofs.Common.{◌≡◌, ℕ, ◌+◌, ◌-◌, ◌≤◌, ◌<◌, Bool, true, false, List, [], ◌∷◌, ◌++◌, length, take, drop, refl, sym}
use Rattle.std.proofs.Common.{ap, subst, ◌∙◌, inl, inr, arith, append_assoc}
use Rattle.std.specs.Prelude.{nat_lt, bytes_eq, Option, None, Some, option_map, if◌then◌else◌}
use Rattle.std.specs.Option.{option_or}
use Rattle.std.proofs.lemmas.Bool.{cases_Bool, lt-ltb}
use Rattle.std.proofs.lemmas.List.{length-append, length-take, take-append-le, take-append-drop, take_all}
use Rattle.std.proofs.lemmas.Slice.Eq.{bytes_eq-Decides}
use Rattle.pcapng_blocks.specs.Capture as pcapng
use Rattle.pcapng_blocks.specs.Numbers as numbers
use Rattle.pcapng_blocks.specs.declared.byte_order.Order.TheVariants as orders
use Rattle.pcapng_blocks.specs.declared.error.BlockError.{BlockError}
use Rattle.pcapng_blocks.specs.declared.error.BlockError.TheVariants as faults
use Rattle.capture_file.specs.declared.error.CaptureError.TheVariants.{Truncated}
use Rattle.capture_file.specs.Pcap as pcap
use Rattle.capture_file.specs.Capture.{is_pcapng, error_from, frames_of, stop_of, damage_of, end_of}
use Rattle.capture_file.specs.Decoders.{frames_as, damage_as, end_as, kept_of}
use Rattle.capture_file.proofs.PcapFeeds.{short}
use Rattle.capture_file.proofs.PcapOutcomes.{kept_none}

-- ---- the first four bytes

abbrev section_type : List ℕ
section_type = 0x0a ∷ 0x0d ∷ 0x0d ∷ 0x0a ∷ []

begins_so : (bytes : List ℕ) → is_pcapng bytes ≡ true → take 4 bytes ≡ section_type
unfolding is_pcapng
begins_so bytes h = (bytes_eq-Decides (take 4 bytes) section_type).0 h

pub pcapng_full : (bytes : List ℕ) → is_pcapng bytes ≡ true → 4 ≤ length bytes
pcapng_full bytes h = omega (arith, length-take 4 bytes, ap length (begins_so bytes h))

-- more bytes don't change the format
pub format_stays : (bytes more : List ℕ) → 4 ≤ length bytes → is_pcapng (bytes ++ more) ≡ is_pcapng bytes
unfolding is_pcapng
format_stays bytes more full = ap (λ (xs : List ℕ). bytes_eq xs section_type) (take-append-le 4 bytes more full)

-- fewer than four bytes are read as pcap
pub few_not_pcapng : (bytes : List ℕ) → length bytes < 4 → is_pcapng bytes ≡ false
few_not_pcapng bytes few =
    elim (cases_Bool (is_pcapng bytes)) [
      | inl is ↦ absurd (omega (arith, pcapng_full bytes is))
      | inr other ↦ other
    ]

-- four bytes are enough to know the format
pub other_format : (bytes magic : List ℕ) → length bytes ≡ 4 → magic ≡ section_type → false ≡ bytes_eq bytes magic
    → false ≡ is_pcapng bytes
unfolding is_pcapng
other_format bytes magic four same other =
    other ∙ ap (bytes_eq bytes) same ∙ ap (λ (xs : List ℕ). bytes_eq xs section_type)
    (sym (take_all 4 bytes (omega (arith, four))))

word_alone : (rest : List ℕ) → numbers.number_at orders.Little 4 0 (pcapng.counted (section_type ++ rest)) ≡ 0x0a0d0d0a
unfolding numbers.number_at
word_alone rest = refl

-- the first word of a pcapng capture
pub first_word : (bytes : List ℕ) → is_pcapng bytes ≡ true
    → numbers.number_at orders.Little 4 0 (pcapng.counted bytes) ≡ 0x0a0d0d0a
first_word bytes h =
    let all : section_type ++ drop 4 bytes ≡ bytes =
    ap (λ (xs : List ℕ). xs ++ drop 4 bytes) (sym (begins_so bytes h)) ∙ take-append-drop 4 bytes in
    subst (λ (xs : List ℕ). numbers.number_at orders.Little 4 0 (pcapng.counted xs) ≡ 0x0a0d0d0a) all
    (word_alone (drop 4 bytes))

-- ---- what a capture says, in its format

pub frames_are : (cpu : ℕ) (bytes : List ℕ) → frames_of cpu bytes ≡ frames_as (is_pcapng bytes) cpu bytes
unfolding frames_of
frames_are cpu bytes = refl

pub damage_is : (bytes : List ℕ) → damage_of bytes ≡ damage_as (is_pcapng bytes) bytes
unfolding damage_of
damage_is bytes = refl

map_or : (damage cut : Option BlockError) → option_map error_from (option_or damage cut)
    ≡ option_or (option_map error_from damage) (option_map error_from cut)
map_or (Some error) cut = refl
map_or None cut = refl

map_cut : (cut : Bool) (stop : ℕ) → option_map error_from (if cut then Some (faults.Truncated stop) else None)
    ≡ (if cut then Some (Truncated stop) else None)
map_cut true stop = refl
map_cut false stop = refl

end_by : (blocks : Bool) (bytes : List ℕ) → is_pcapng bytes ≡ blocks → end_of bytes ≡ end_as blocks bytes
unfolding end_of damage_of stop_of pcap.end_of
end_by true bytes h =
    rw (
      h,
      map_or (pcapng.damage_of bytes) (pcapng.cut_of bytes),
      map_cut (nat_lt (pcapng.stop_of bytes) (length bytes)) (pcapng.stop_of bytes),
    ) refl
end_by false bytes h = rw h refl

pub end_is : (bytes : List ℕ) → end_of bytes ≡ end_as (is_pcapng bytes) bytes
end_is bytes = end_by (is_pcapng bytes) bytes refl

-- ---- fewer bytes than say the format

-- what is known of them
pub record IsBrief (cpu : ℕ) (bytes : List ℕ) : Type 0 where
  pub format : is_pcapng bytes ≡ false
  pub frames : frames_of cpu bytes ≡ []
  pub damage : damage_of bytes ≡ None
  pub end : end_of bytes ≡ Some (Truncated 0)
  pub kept : kept_of bytes ≡ bytes

pub brief : (cpu : ℕ) (bytes : List ℕ) → length bytes < 4 → IsBrief cpu bytes
unfolding end_of
brief cpu bytes few =
    let format = few_not_pcapng bytes few in
    let told = short cpu bytes (omega arith) in
    let none : damage_of bytes ≡ None = damage_is bytes ∙ rw format told.damage in
    record {
      format = format;
      frames = frames_are cpu bytes ∙ rw format told.frames;
      damage = none;
      end = rw (none, format, lt-ltb (length bytes) 24 (omega arith)) refl;
      kept = rw format (kept_none bytes told.damage ∙ rw told.stop refl);
    }

-- ---- collecting the first four bytes

module _ (start piece new fed : List ℕ) (few : length start < 4) (same : start ≡ fed)
    (all : new ≡ start ++ take (4 - length start) piece) where
  -- fewer than four are all that were fed
  pub gathers : length new < 4 → new ≡ fed ++ piece
  gathers less =
      let long : length new ≡ length start + length (take (4 - length start) piece) =
      ap length all ∙ length-append start (take (4 - length start) piece) in
      let whole : take (4 - length start) piece ≡ piece =
      take_all (4 - length start) piece (omega (arith, length-take (4 - length start) piece)) in
      all ∙ ap (λ (xs : List ℕ). start ++ xs) whole ∙ ap (λ (xs : List ℕ). xs ++ piece) same

  -- otherwise they are four, and the rest of the piece is after them
  pub gathers_four : 4 ≤ length new → length new ≡ 4
  gathers_four full =
      let long : length new ≡ length start + length (take (4 - length start) piece) =
      ap length all ∙ length-append start (take (4 - length start) piece) in
      omega (arith, length-take (4 - length start) piece)

  pub gathers_all : new ++ drop (4 - length start) piece ≡ fed ++ piece
  gathers_all =
      ap (λ (xs : List ℕ). xs ++ drop (4 - length start) piece) all
      ∙ append_assoc start (take (4 - length start) piece) (drop (4 - length start) piece)
      ∙ ap (λ (xs : List ℕ). start ++ xs) (take-append-drop (4 - length start) piece)
      ∙ ap (λ (xs : List ℕ). xs ++ piece) same
