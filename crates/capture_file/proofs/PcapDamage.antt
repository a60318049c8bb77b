-- What the damage and the end of a capture can be.
use Rattle.std.proofs.Common.{◌≡◌, ℕ, ◌≤◌, ◌<◌, List, length, drop, refl, inl, inr, arith}
use Rattle.std.specs.Prelude.{◌≢◌, nat_lt, Option, None, Some, IsSome, Result, Ok, Err}
use Rattle.std.specs.Option.{option_or}
use Rattle.std.proofs.lemmas.Bool.{cases_Bool, cases_lt, le-ltb, lt-ltb, ltb-false}
use Rattle.capture_file.specs.declared.error.CaptureError.{CaptureError}
use Rattle.capture_file.specs.declared.error.CaptureError.TheVariants.{BadLength, TooLarge, Memory}
use Rattle.capture_file.specs.declared.format.Format.{Format}
use Rattle.capture_file.specs.Pcap.{header_of, counted, begins_oversized, stop_of, damage_of, cut_of, end_of}
use Rattle.capture_file.proofs.Steps.{header_not_memory}
use Rattle.capture_file.proofs.PcapFeeds.{short, refused, damage_oversized, damage_too_large, damage_none}

-- the three cases of a capture after a good header
data Ways (bytes : List ℕ) : Type 0 where
  oversized : damage_of bytes ≡ Some (BadLength (stop_of bytes)) → Ways bytes
  large : damage_of bytes ≡ Some TooLarge → Ways bytes
  sound : damage_of bytes ≡ None → length bytes ≤ 33554432 → Ways bytes

ways : (format : Format) (bytes : List ℕ) → 24 ≤ length bytes → header_of bytes ≡ Ok format → Ways bytes
ways format bytes full passed =
    elim (cases_Bool (begins_oversized format.order (drop (stop_of bytes) (counted bytes)))) [
      | inl over ↦ oversized (damage_oversized format bytes full passed over)
      | inr under ↦
          elim (cases_Bool (nat_lt 33554432 (length bytes))) [
            | inl more ↦ large (damage_too_large format bytes full passed under more)
            | inr few ↦ sound (damage_none format bytes full passed under few) (ltb-false _ _ few)
          ]
    ]

not_memory_by : (bytes : List ℕ) (header : Result Format CaptureError) → 24 ≤ length bytes → header_of bytes ≡ header
    → damage_of bytes ≢ Some Memory
not_memory_by bytes (Ok format) full e m =
    elim (ways format bytes full e) [
      | oversized d ↦ absurd (cc (d, m))
      | large d ↦ absurd (cc (d, m))
      | sound d few ↦ absurd (cc (d, m))
    ]
not_memory_by bytes (Err damage) full e m =
    let d = (refused 0 bytes damage full e).damage in
    header_not_memory bytes damage e (cc (d, m))

pub damage_not_memory : (bytes : List ℕ) → damage_of bytes ≢ Some Memory
damage_not_memory bytes m =
    elim (cases_lt (length bytes) 24) [
      | inl less ↦ let d = (short 0 bytes less).damage in absurd (cc (d, m))
      | inr full ↦ not_memory_by bytes (header_of bytes) full refl m
    ]

or_not_memory : (damage : Option CaptureError) (bytes : List ℕ) → damage ≢ Some Memory
    → option_or damage (cut_of bytes) ≢ Some Memory
or_not_memory (Some damage) bytes not m = not m
or_not_memory None bytes not m =
    elim (cases_lt (length bytes) 24) [
      | inl less ↦ let e = rw (lt-ltb _ _ less) at m in absurd cc
      | inr full ↦
          elim (cases_lt (stop_of bytes) (length bytes)) [
            | inl cut ↦ let e = rw (le-ltb _ _ full, lt-ltb _ _ cut) at m in absurd cc
            | inr whole ↦ let e = rw (le-ltb _ _ full, le-ltb _ _ whole) at m in absurd cc
          ]
    ]

pub end_not_memory : (bytes : List ℕ) → end_of bytes ≢ Some Memory
unfolding end_of
end_not_memory bytes = or_not_memory (damage_of bytes) bytes (damage_not_memory bytes)

too_many_by : (bytes : List ℕ) (header : Result Format CaptureError) → 33554432 < length bytes → header_of bytes ≡ header
    → IsSome (damage_of bytes)
too_many_by bytes (Ok format) many e =
    elim (ways format bytes (omega arith) e) [
      | oversized d ↦ rw d refl
      | large d ↦ rw d refl
      | sound d few ↦ absurd (omega arith)
    ]
too_many_by bytes (Err damage) many e = rw ((refused 0 bytes damage (omega arith) e).damage) refl

pub too_many : (bytes : List ℕ) → 33554432 < length bytes → IsSome (damage_of bytes)
too_many bytes many = too_many_by bytes (header_of bytes) many refl
