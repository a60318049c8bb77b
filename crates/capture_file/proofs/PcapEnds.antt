-- How a capture ends, by the stage of its decoder.
use Rattle.std.proofs.Common.{Bool, Option, eqb, ◌≡◌, ℕ, ◌≤◌, List, [], length, drop, refl, sym, ap, ◌∙◌, inl, inr, arith}
use Rattle.std.specs.Prelude.{◌≢◌, None, Some, Result, Ok, Err}
use Rattle.std.proofs.lemmas.Bool.{cases_Bool, eqb-true, eqb-false, both_ways, cases_lt, le-ltb, lt-ltb}
use Rattle.std.proofs.lemmas.List.{nil_from_length, length-drop, drop_all}
use Rattle.capture_file.specs.declared.error.CaptureError.{CaptureError}
use Rattle.capture_file.specs.declared.error.CaptureError.TheVariants.{Truncated, Memory}
use Rattle.capture_file.specs.declared.format.Format.{Format}
use Rattle.capture_file.specs.declared.stage.Stage.{Stage}
use Rattle.capture_file.specs.declared.stage.Stage.TheVariants.{Header, Records, Damaged}
use Rattle.capture_file.specs.Pcap.{header_of, captured, stop_of, damage_of, end_of}
use Rattle.capture_file.specs.Feeds.{error_of, end_at, IsSoundStage}
use Rattle.capture_file.specs.PcapDecoders.{stage_of, stage_behind, kept_of, Represents, PcapValue}
use Rattle.capture_file.proofs.Records.{has_whole, has_oversized}
use Rattle.capture_file.proofs.PcapFeeds.{short, damage_is_error}
use Rattle.capture_file.proofs.PcapOutcomes.{kept_none}

-- a decoder that nothing was fed to
pub represents_new : (number : ℕ) (kept : List ℕ) → kept ≡ []
    → Represents number (record { cpu = number; stage = Header; stop = 0; index = 0; rest = kept }) []
represents_new number kept none =
    let told = short number [] (omega arith) in
    record {
      cpu = refl;
      stage = sym told.stage;
      stop = sym told.stop;
      index = rw told.frames refl;
      rest = none ∙ sym (kept_none [] told.damage ∙ rw told.stop refl);
    }

behind_not_header : (header : Result Format CaptureError) → stage_behind header ≡ Header → ⊥
behind_not_header (Ok format) e = cc
behind_not_header (Err damage) e = cc

module _ (number : ℕ) (decoder old : PcapValue) (fed : List ℕ) (view : decoder ≡ old)
    (represents : Represents number old fed) where
  at : decoder.stage ≡ stage_of fed
  at = ap (λ (v : PcapValue). v.stage) view ∙ represents.stage

  place : decoder.stop ≡ stop_of fed
  place = ap (λ (v : PcapValue). v.stop) view ∙ represents.stop

  all : decoder.rest ≡ kept_of fed
  all = ap (λ (v : PcapValue). v.rest) view ∙ represents.rest

  error : damage_of fed ≡ error_of decoder.stage
  error = damage_is_error fed ∙ ap error_of (sym at)

  pub end_damaged : (damage : CaptureError) → decoder.stage ≡ Damaged damage → Some damage ≡ end_of fed
  unfolding end_of
  end_damaged damage e = rw (error, e) refl

  -- the header isn't whole
  pub end_header : decoder.stage ≡ Header → Some (Truncated decoder.stop) ≡ end_of fed
  unfolding end_of
  end_header e =
      elim (cases_lt (length fed) 24) [
        | inl less ↦ rw (error, e, lt-ltb _ _ less, place, (short number fed less).stop) refl
        | inr full ↦
            let good : damage_of fed ≡ None = error ∙ rw e refl in
            let behind : stage_of fed ≡ stage_behind (header_of fed) = rw (good, le-ltb _ _ full) refl in
            absurd (behind_not_header (header_of fed) (sym behind ∙ sym at ∙ e))
      ]

  -- records are whole up to the stop
  records_full : (format : Format) → decoder.stage ≡ Records format → 24 ≤ length fed
  records_full format e =
      elim (cases_lt (length fed) 24) [
        | inl less ↦ let told = (short number fed less).stage in absurd (cc (at, e, told))
        | inr full ↦ full
      ]

  pub end_whole : (format : Format) → decoder.stage ≡ Records format → decoder.rest ≡ [] → None ≡ end_of fed
  unfolding end_of
  end_whole format e none =
      let good : damage_of fed ≡ None = error ∙ rw e refl in
      let left : drop (stop_of fed) fed ≡ [] = sym (kept_none fed good) ∙ sym all ∙ none in
      let few : length fed ≤ stop_of fed = omega (arith, length-drop (stop_of fed) fed, ap length left) in
      rw (good, le-ltb _ _ (records_full format e), le-ltb _ _ few) refl

  pub end_cut : (format : Format) → decoder.stage ≡ Records format → (decoder.rest ≡ [] → ⊥)
      → Some (Truncated decoder.stop) ≡ end_of fed
  unfolding end_of
  end_cut format e some =
      let good : damage_of fed ≡ None = error ∙ rw e refl in
      elim (cases_lt (stop_of fed) (length fed)) [
        | inl more ↦ rw (good, le-ltb _ _ (records_full format e), lt-ltb _ _ more, place) refl
        | inr few ↦ absurd (some (all ∙ kept_none fed good ∙ drop_all (stop_of fed) fed few))
      ]

  -- the stage, its place and whether bytes are kept determine the end
  pub end_told : (stage : Stage) (none : Bool) → decoder.stage ≡ stage → none ≡ eqb (length decoder.rest) 0
      → end_at stage decoder.stop none ≡ end_of fed
  end_told Header none e kept = end_header e
  end_told (Damaged damage) none e kept = end_damaged damage e
  end_told (Records format) none e kept =
      elim (cases_Bool none) [
        | inl empty ↦ rw empty (end_whole format e (nil_from_length decoder.rest (eqb-true _ _ (sym kept ∙ empty))))
        | inr some ↦ rw some (end_cut format e (λ (nil : decoder.rest ≡ []). eqb-false _ _ (sym kept ∙ some) (ap length nil)))
      ]

  pub rest_kept : length decoder.rest ≡ length (kept_of fed)
  rest_kept = ap length all

-- a part of a record is short
pub few_kept : (stage : Stage) (kept : List ℕ) → IsSoundStage stage kept → length kept ≤ 262159
few_kept Header kept told = omega arith
few_kept (Damaged damage) kept told = rw told.1 (omega arith)
few_kept (Records format) kept told =
    elim (cases_lt (length kept) 262160) [
      | inl few ↦ omega arith
      | inr many ↦
          elim (cases_lt 262144 (captured format.order kept)) [
            | inl large ↦
                absurd
                (both_ways _ told.oversized (has_oversized format.order kept (record { header = omega arith; large = large })))
            | inr small ↦
                absurd
                (both_ways _ told.whole
                (has_whole format.order kept (record { header = omega arith; small = small; here = omega arith })))
          ]
    ]

-- the end is never `Memory`
pub end_sound : (answer : Option CaptureError) (stage : Stage) (stop : ℕ) (none : Bool) (kept : List ℕ)
    → answer ≡ end_at stage stop none → IsSoundStage stage kept → answer ≢ Some Memory
end_sound answer Header stop none kept e told m = absurd cc
end_sound answer (Damaged damage) stop none kept e told m = told.0 (cc (e, m))
end_sound answer (Records format) stop none kept e told m =
    elim (cases_Bool none) [
      | inl empty ↦ let f = rw empty at e in absurd cc
      | inr some ↦ let f = rw some at e in absurd cc
    ]
