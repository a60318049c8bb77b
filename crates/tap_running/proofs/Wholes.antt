-- A capture that is whole ends whole, unless reading failed.
use Rattle.capture_file.proofs.LastingDamage.{stays}
use Rattle.capture_file.specs.Capture.{cut_of, damage_of, end_of, lacks_header, stop_of}
use Rattle.capture_file.specs.declared.cpu_end.CpuEnd.{CpuEnd}
use Rattle.capture_file.specs.declared.cpu_end.CpuEnd.TheVariants.{Damaged, Fault, Whole}
use Rattle.capture_file.specs.declared.error.CaptureError.{CaptureError}
use Rattle.capture_file.specs.declared.error.CaptureError.TheVariants.{Truncated}
use Rattle.capture_reading.specs.Sources.{UnlessFault, WhereEnded, end_by}
use Rattle.std.proofs.Common.{Bool, List, None, Option, Some, ap, arith, false, inl, inr, length, refl, subst, sym, true, ℕ}
use Rattle.std.proofs.Common.{◌++◌, ◌+◌, ◌∙◌, ◌≡◌, ◌≢◌}
use Rattle.std.specs.Option.{option_or}
use Rattle.std.specs.Prelude.{if◌then◌else◌, nat_lt, ◌⊎◌}
use Rattle.tap_running.specs.Captures.{fault_at}

pub none_some : {A : Type 0} (o : Option A) (value : A) → o ≡ None → o ≡ Some value → ⊥
none_some None value e f = cc
none_some (Some x) value e f = cc

-- a capture that is cut shows where
pub cut_place : (a b : Bool) (stop : ℕ) (damage : CaptureError)
    → (if a then Some (Truncated 0) else if b then Some (Truncated stop) else None) ≡ Some damage
    → (place : ℕ) × (damage ≡ Truncated place)
cut_place true b stop damage e = (0, same e) where
  same : ◌≡◌ {A = Option CaptureError} (Some (Truncated 0)) (Some damage) → damage ≡ Truncated 0
  same e = cc
cut_place false true stop damage e = (stop, same e) where
  same : ◌≡◌ {A = Option CaptureError} (Some (Truncated stop)) (Some damage)
      → damage ≡ Truncated stop
  same e = cc
cut_place false false stop damage e = cc

-- what ends a capture is damage, or a cut
pub damage_or_cut : (bytes : List ℕ) (damage : CaptureError) → end_of bytes ≡ Some damage
    → (damage_of bytes ≡ Some damage) ⊎ ((place : ℕ) × (damage ≡ Truncated place))
unfolding end_of
damage_or_cut bytes damage e = by (damage_of bytes) refl e where
  by : (found : Option CaptureError) → damage_of bytes ≡ found
      → option_or found (cut_of bytes) ≡ Some damage → (damage_of bytes ≡ Some damage)
      ⊎ ((place : ℕ) × (damage ≡ Truncated place))
  by None is e = inr (cut_place (lacks_header bytes) (nat_lt (stop_of bytes) (length bytes))
      (stop_of bytes) damage e)
  by (Some x) is e = inl (is ∙ e)

pub damage_is : (damage other : CaptureError) → Damaged damage ≡ Damaged other → damage ≡ other
damage_is damage other e = cc

-- damage ends a capture
pub damage_end : (bytes : List ℕ) (damage : CaptureError) → damage_of bytes ≡ Some damage
    → end_of bytes ≡ Some damage
unfolding end_of
damage_end bytes damage e = ap (λ d. option_or d (cut_of bytes)) e

-- a prefix of a whole capture that doesn't end whole isn't all of it
pub whole_end : (content bytes rest : List ℕ) (end : CpuEnd) → content ≡ bytes ++ rest
    → end_of content ≡ None
    → UnlessFault end (end ≡ end_by (end_of bytes)) → WhereEnded end (bytes ≡ content) → end ≢ Fault
    → end ≡ Whole
whole_end content bytes rest Whole parts none is all sane = refl
whole_end content bytes rest Fault parts none is all sane = absurd (sane refl)
whole_end content bytes rest (Damaged damage) parts none is all sane = by (end_of bytes) refl is
  where
    wrong : (found : CaptureError) → end_of bytes ≡ Some found → damage ≡ found → ⊥
    wrong found e same = at (damage_or_cut bytes damage (e ∙ ap Some (sym same))) where
      at : (damage_of bytes ≡ Some damage) ⊎ ((place : ℕ) × (damage ≡ Truncated place)) → ⊥
      at (inl damaged) =
          none_some (end_of content) damage none (damage_end content damage
          (ap damage_of parts ∙ (stays 0 bytes rest damage damaged).same))
      at (inr cut) =
          let same_bytes : bytes ≡ content = subst (λ (d : CaptureError). WhereEnded (Damaged d)
          (bytes ≡ content)) cut.1 all in
          none_some (end_of content) damage none
          (ap end_of (sym same_bytes) ∙ e ∙ ap Some (sym same))

    by : (found : Option CaptureError) → end_of bytes ≡ found → Damaged damage ≡ end_by found
        → Damaged damage ≡ Whole
    by None e is = is
    by (Some found) e is = absurd (wrong found e (damage_is damage found is))

-- the ends of whole captures, if none ended with a fault
pub none_faults : (end : CpuEnd) → fault_at end ≡ 0 → end ≢ Fault
none_faults Whole none e = cc
none_faults Fault none e = omega (arith, none)
none_faults (Damaged damage) none e = cc
