-- What holds of what a source gave, from one piece to the next.
use Rattle.std.proofs.Common.{◌≡◌, ◌≢◌, ℕ, false, append-nil, append_assoc, subst, inl, inr, ◌≤◌, List, [], ◌++◌, length}
use Rattle.std.proofs.Common.{Option, None, Some, refl, sym, ap, ◌∙◌, arith, length-append}
use Rattle.std.specs.Prelude.{Err, IsSome, ◌<◌}
use Rattle.std.proofs.lemmas.Bool.{cases_lt}
use Rattle.std.specs.Io.KnownBytes.{Consumes}
use Rattle.capture_file.specs.Capture.{damage_of, end_of}
use Rattle.capture_file.specs.Decoders.{UnlessMemory}
use Rattle.capture_file.specs.declared.error.CaptureError.{CaptureError}
use Rattle.capture_file.specs.declared.error.CaptureError.TheVariants as errors
use Rattle.capture_file.specs.declared.cpu_end.CpuEnd.{CpuEnd}
use Rattle.capture_file.specs.declared.cpu_end.CpuEnd.TheVariants.{Whole, Fault, Damaged}
use Rattle.tap_outside.specs.Counts.{Rose}
use Rattle.capture_reading.specs.Pieces.{ended_by, is_want}
use Rattle.tap_outside.specs.Seen.{SourceSeen}
use Rattle.tap_outside.proofs.Consumed.{Consumes-more, Consumes-none}
use Rattle.capture_reading.specs.Sources.{EndsAtDamage, FailedToGive, GavePiece, Giving, UnlessFault, WhereEnded, WhereFault}
use Rattle.capture_reading.specs.Sources.{end_by}

-- the answer isn't `Memory`
pub told : {P : Type 0} → (damage : CaptureError) → is_want damage ≡ false
    → UnlessMemory {X = Unit {0}} (Err damage) P → P
told errors.Memory ne h = cc
told errors.BadMagic ne h = h
told errors.BadVersion ne h = h
told (errors.BadLink field) ne h = h
told (errors.BadLength place) ne h = h
told (errors.Truncated place) ne h = h
told errors.TooLarge ne h = h
told (errors.BadInterface place) ne h = h

without_fault : (P : Type 0) (end : CpuEnd) → P → UnlessFault end P
without_fault P Fault h = tt
without_fault P Whole h = h
without_fault P (Damaged damage) h = h

where_ended : (P : Type 0) (end : CpuEnd) → P → WhereEnded end P
where_ended P Whole h = h
where_ended P Fault h = tt
where_ended P (Damaged errors.BadMagic) h = tt
where_ended P (Damaged errors.BadVersion) h = tt
where_ended P (Damaged (errors.BadLink field)) h = tt
where_ended P (Damaged (errors.BadLength place)) h = tt
where_ended P (Damaged (errors.Truncated place)) h = h
where_ended P (Damaged errors.TooLarge) h = tt
where_ended P (Damaged errors.Memory) h = tt
where_ended P (Damaged (errors.BadInterface place)) h = tt

no_cut : (P : Type 0) (damage : CaptureError) → ((place : ℕ) → damage ≢ errors.Truncated place)
    → WhereEnded (Damaged damage) P
no_cut P errors.BadMagic h = tt
no_cut P errors.BadVersion h = tt
no_cut P (errors.BadLink field) h = tt
no_cut P (errors.BadLength place) h = tt
no_cut P (errors.Truncated place) h = absurd (h place refl)
no_cut P errors.TooLarge h = tt
no_cut P errors.Memory h = tt
no_cut P (errors.BadInterface place) h = tt

no_fault : (P : Type 0) (damage : Option CaptureError) → WhereFault (end_by damage) P
no_fault P None = tt
no_fault P (Some damage) = tt

-- an end that the decoder reports
told_end : (P : Type 0) (end : CpuEnd) (damage : Option CaptureError) → end ≡ end_by damage
    → WhereFault end P
told_end P end damage e = subst (λ (x : CpuEnd). WhereFault x P) (sym e) (no_fault P damage)

-- a count that stayed the same, and then rose
rose_then : (a b c : ℕ) → b ≡ a → Rose b c → Rose a c
rose_then a b c h rose = omega (arith, h, rose)

-- ---- bytes without damage

-- bytes without damage end before any damage, with a last piece without a byte
sound_ends : (bytes : List ℕ) → damage_of bytes ≡ None → EndsAtDamage bytes
sound_ends bytes sound = record {
  before = bytes;
  piece = [];
  parts = sym (append-nil bytes);
  sound = sound;
  small = omega arith;
}

-- what is sound isn't larger than a capture may be
pub is_small : (bytes : List ℕ) → damage_of bytes ≡ None
    → (33554432 < length bytes → IsSome (damage_of bytes)) → length bytes ≤ 33554432
is_small bytes sound h =
    elim (cases_lt 33554432 (length bytes))
    [ inl more ↦ absurd (none_is_some (damage_of bytes) sound (h more)) | inr few ↦ few ]
  where
    none_is_some : (d : Option CaptureError) → d ≡ None → IsSome d → ⊥
    none_is_some None e some = cc
    none_is_some (Some x) e some = cc

-- ---- the first state

pub gave_nothing : (first : Option SourceSeen) → damage_of [] ≡ None → Giving first first [] None
gave_nothing None sound = refl
gave_nothing (Some seen) sound =
    record {
      name_is = refl;
      taken = Consumes-none seen.left;
      given_is = sym (append-nil seen.given);
      faultless = refl;
      sound = sound;
    }

-- ---- the source ends

pub none_gives : (first : Option SourceSeen) (bytes : List ℕ)
    → Giving first None bytes None → Giving first None bytes (Some Fault)
none_gives None bytes h = (h, refl)
none_gives (Some seen) bytes h = absurd h

on_and_on : (first before now : Option (List ℕ)) (bytes : List ℕ)
    → Consumes first before bytes → Consumes before now [] → Consumes first now bytes
on_and_on first before now bytes h k =
    subst (λ b. Consumes first now b) (append-nil bytes)
    (Consumes-more first before now bytes [] h k)

-- some bytes were given, and then a piece
more_given : (first before now bytes piece : List ℕ)
    → before ≡ first ++ bytes → now ≡ before ++ piece → now ≡ first ++ (bytes ++ piece)
more_given first before now bytes piece one two =
    two ∙ ap (λ (t : List ℕ). t ++ piece) one ∙ append_assoc first bytes piece

-- and then none
none_more : (first before now bytes piece : List ℕ)
    → before ≡ first ++ bytes → now ≡ before ++ piece → piece ≡ [] → now ≡ first ++ bytes
none_more first before now bytes piece one two none =
    more_given first before now bytes piece one two
    ∙ ap (λ (t : List ℕ). first ++ (bytes ++ t)) none
    ∙ ap (λ (t : List ℕ). first ++ t) (append-nil bytes)

-- a read fails
pub fault_gives : (first : Option SourceSeen) (old new : SourceSeen) (bytes : List ℕ)
    → length bytes ≤ 33554432 → Giving first (Some old) bytes None → FailedToGive old new
    → Giving first (Some new) bytes (Some Fault)
fault_gives None old new bytes few h failed = absurd h
fault_gives (Some seen) old new bytes few h failed =
    let same = h.faultless in
    let later = failed.later in
    record {
      name_is = failed.name_is ∙ h.name_is;
      taken = on_and_on seen.left old.left new.left bytes h.taken failed.taken;
      given_is = failed.given_is ∙ h.given_is;
      last = sound_ends bytes h.sound;
      few = omega (arith, few);
      later = omega (arith, same, later);
      fault = rose_then seen.faults old.faults new.faults same failed.rose;
      sound = h.sound;
      faultless = tt;
      damage = tt;
      all = tt;
    }

-- a read gives no byte
pub end_gives : (first : Option SourceSeen) (old new : SourceSeen) (bytes piece : List ℕ)
    (end : CpuEnd)
    → length bytes ≤ 33554432 → Giving first (Some old) bytes None → GavePiece old new piece
    → piece ≡ [] → end ≡ end_by (end_of bytes) → Giving first (Some new) bytes (Some end)
end_gives None old new bytes piece end few h gave empty is = absurd h
end_gives (Some seen) old new bytes piece end few h gave empty is =
    let same = h.faultless in
    let still = gave.faultless in
    let nothing = subst (λ (p : List ℕ). Consumes old.left new.left p) empty gave.taken in
    record {
      name_is = gave.name_is ∙ h.name_is;
      taken = on_and_on seen.left old.left new.left bytes h.taken nothing;
      given_is = none_more seen.given old.given new.given bytes piece h.given_is gave.given_is empty;
      last = sound_ends bytes h.sound;
      few = omega (arith, few);
      later = omega (arith, same, still);
      fault = told_end _ end (end_of bytes) is;
      sound = told_end _ end (end_of bytes) is;
      faultless = without_fault _ end (still ∙ same);
      damage = without_fault _ end is;
      all = where_ended _ end (gave.end empty);
    }

-- ---- one more piece

abbrev pub IsTheEnd : Type 0
IsTheEnd = (bytes : List ℕ) (d : CaptureError) → damage_of bytes ≡ Some d → end_of bytes ≡ Some d

abbrev pub IsUncut : Type 0
IsUncut = (bytes : List ℕ) (place : ℕ) → damage_of bytes ≢ Some (errors.Truncated place)

-- a read gives bytes
pub piece_gives : (first : Option SourceSeen) (old new : SourceSeen) (bytes piece : List ℕ)
    (damage : Option CaptureError) → IsTheEnd → IsUncut
    → length bytes ≤ 33554432 → length piece ≤ 65536
    → Giving first (Some old) bytes None → GavePiece old new piece
    → damage ≡ damage_of (bytes ++ piece)
    → Giving first (Some new) (bytes ++ piece) (ended_by damage)
piece_gives None old new bytes piece damage the_end uncut few small h gave is = absurd h
piece_gives (Some seen) old new bytes piece None the_end uncut few small h gave is = record {
  name_is = gave.name_is ∙ h.name_is;
  taken = Consumes-more seen.left old.left new.left bytes piece h.taken gave.taken;
  given_is = more_given seen.given old.given new.given bytes piece h.given_is gave.given_is;
  faultless = gave.faultless ∙ h.faultless;
  sound = sym is;
}
piece_gives (Some seen) old new bytes piece (Some damage) the_end uncut few small h gave is =
    let same = h.faultless in
    let still = gave.faultless in
    record {
      name_is = gave.name_is ∙ h.name_is;
      taken = Consumes-more seen.left old.left new.left bytes piece h.taken gave.taken;
      given_is = more_given seen.given old.given new.given bytes piece h.given_is gave.given_is;
      last = record { before = bytes; piece = piece; parts = refl; sound = h.sound; small = small };
      few = omega (arith, few, small, length-append bytes piece);
      later = omega (arith, same, still);
      fault = tt;
      sound = tt;
      faultless = still ∙ same;
      damage = sym (ap end_by (the_end (bytes ++ piece) damage (sym is)));
      all = no_cut _ damage (λ place e. uncut (bytes ++ piece) place (sym is ∙ ap Some e));
    }

pub none_shown : (damage : Option CaptureError) → ended_by damage ≡ None → damage ≡ None
none_shown None e = refl
none_shown (Some damage) e = cc
