-- A capture is what its source gave.
use Rattle.capture_file.proofs.Formats.{brief}
use Rattle.capture_file.specs.Capture.{damage_of, end_of}
use Rattle.capture_file.specs.declared.cpu_end.CpuEnd.{CpuEnd}
use Rattle.capture_file.specs.declared.cpu_end.CpuEnd.TheVariants.{Damaged, Fault, Whole}
use Rattle.capture_reading.specs.Sources.{EndsAtDamage, Gave, UnlessFault, WhereEnded, WhereFault, end_by}
use Rattle.std.proofs.Common.{Bool, List, None, Option, Some, [], ap, append-nil, arith, false, length, refl, subst, sym, true}
use Rattle.std.proofs.Common.{ℕ, ◌++◌, ◌+◌, ◌∙◌, ◌≡◌, ◌≤◌}
use Rattle.std.proofs.lemmas.Bool.{eqb-true}
use Rattle.std.specs.Io.KnownBytes.{Consumes, IsAtEnd}
use Rattle.std.specs.Prelude.{if◌then◌else◌, unwrap_or, ◌==◌}
use Rattle.tap_outside.specs.Contents.{Contents, GivesFile}
use Rattle.tap_outside.specs.Counts.{Rose}
use Rattle.tap_outside.specs.Seen.{SourceSeen, entry_of}
use Rattle.tap_reading.specs.Fronts.{IsAllOf, IsFrontOf}
use Rattle.tap_outside.proofs.Taken.{entry_failed, entry_unfailed}
use Rattle.tap_running.specs.Captures.{IsCapture, IsFresh, capture_entry, fault_at}
use Rattle.capture_file.specs.declared.error.CaptureError.TheVariants as errors

pub nothing_of : (held : Option Contents) (name : List ℕ) → IsFrontOf held name []
nothing_of None name = tt
nothing_of (Some files) name = record { rest = unwrap_or (files name) []; parts = refl }

pub unless : (end : CpuEnd) (P : Type 0) → end ≡ Fault → UnlessFault end P
unless Fault P e = tt
unless Whole P e = cc
unless (Damaged damage) P e = cc

pub where_ended : (end : CpuEnd) (P : Type 0) → end ≡ Fault → WhereEnded end P
where_ended Fault P e = tt
where_ended Whole P e = cc
where_ended (Damaged damage) P e = cc

pub where_fault : (end : CpuEnd) (P : Type 0) → P → WhereFault end P
where_fault Whole P p = tt
where_fault Fault P p = p
where_fault (Damaged damage) P p = tt

pub no_damage : damage_of [] ≡ None
no_damage = (brief 0 [] (omega arith)).damage

-- a capture that can't be fetched gave nothing
pub missing_capture : (held : Option Contents) (name bytes : List ℕ) (end : CpuEnd) → bytes ≡ []
    → end ≡ Fault → IsCapture held name bytes end
missing_capture held name bytes end none fault = record {
  front = subst (λ b. IsFrontOf held name b) (sym none) (nothing_of held name);
  last = subst (λ b. EndsAtDamage b) (sym none) (record {
    before = [];
    piece = [];
    parts = refl;
    sound = no_damage;
    small = omega arith;
  });
  few = subst (λ (b : List ℕ). length b ≤ 33619968) (sym none) (omega arith);
  sound = where_fault end (damage_of bytes ≡ None) (ap damage_of none ∙ no_damage);
  damage = unless end (end ≡ end_by (end_of bytes)) fault;
  all = where_ended end (IsAllOf held name bytes) fault;
}

pub front_by : (held : Option Contents) (name bytes : List ℕ) (left new : Option (List ℕ))
    → GivesFile held name left → Consumes left new bytes → IsFrontOf held name bytes
front_by None name bytes left new gives took = tt
front_by (Some files) name bytes None new gives took = absurd gives
front_by (Some files) name bytes (Some content) None gives took = absurd took
front_by (Some files) name bytes (Some content) (Some rest) gives took = record
    { rest = rest; parts = sym gives ∙ took }

pub all_by : (held : Option Contents) (name bytes : List ℕ) (left new : Option (List ℕ))
    → GivesFile held name left → Consumes left new bytes → IsAtEnd new → IsAllOf held name bytes
all_by None name bytes left new gives took end = tt
all_by (Some files) name bytes None new gives took end = absurd gives
all_by (Some files) name bytes (Some content) None gives took end = absurd took
all_by (Some files) name bytes (Some content) (Some rest) gives took end = sym
    (sym gives ∙ took ∙ ap (λ r. bytes ++ r) end ∙ append-nil bytes)

pub map_ended : (end : CpuEnd) (P Q : Type 0) → (P → Q) → WhereEnded end P → WhereEnded end Q
map_ended Whole P Q f p = f p
map_ended Fault P Q f p = tt
map_ended (Damaged errors.BadMagic) P Q f p = tt
map_ended (Damaged errors.BadVersion) P Q f p = tt
map_ended (Damaged (errors.BadLink field)) P Q f p = tt
map_ended (Damaged (errors.BadLength place)) P Q f p = tt
map_ended (Damaged (errors.Truncated place)) P Q f p = f p
map_ended (Damaged errors.TooLarge) P Q f p = tt
map_ended (Damaged errors.Memory) P Q f p = tt
map_ended (Damaged (errors.BadInterface place)) P Q f p = tt

pub capture_by : (held : Option Contents) (name bytes : List ℕ) (old new : SourceSeen) (end : CpuEnd)
    → IsFresh held name old → Gave old new bytes end → IsCapture held name bytes end
capture_by held name bytes old new end fresh gave = record {
  front = front_by held name bytes old.left new.left fresh.left gave.taken;
  last = gave.last;
  few = gave.few;
  sound = gave.sound;
  damage = gave.damage;
  all = map_ended end (IsAtEnd new.left) (IsAllOf held name bytes)
      (all_by held name bytes old.left new.left fresh.left gave.taken) gave.all;
}

pub one_at_most : (end : CpuEnd) → fault_at end ≤ 1
one_at_most Whole = omega arith
one_at_most Fault = omega arith
one_at_most (Damaged damage) = omega arith

pub zero_one : (n : ℕ) (b : Bool) → b ≡ false → 1 ≤ (if b then 0 else 1)
zero_one n true e = cc
zero_one n false e = omega arith

pub faulty_one : (faults : ℕ) → 1 ≤ faults → 1 ≤ (if faults == 0 then 0 else 1)
faulty_one faults h = by (faults == 0) refl where
  by : (b : Bool) → (faults == 0) ≡ b → 1 ≤ (if faults == 0 then 0 else 1)
  by true e = absurd (let zero_is = eqb-true faults 0 e in omega (arith, zero_is, h))
  by false e = rw e (omega arith)

pub fault_counts : (end : CpuEnd) (old new : SourceSeen) → old.faults ≡ 0
    → WhereFault end (Rose old.faults new.faults)
    → fault_at end ≤ (if new.faults == 0 then 0 else 1)
fault_counts Whole old new fresh h = omega arith
fault_counts (Damaged damage) old new fresh h = omega arith
fault_counts Fault old new fresh h = faulty_one new.faults (omega (arith, fresh, h))

-- if no CPU ended with a fault each capture was fetched, and no read of it failed
pub fault_is : (end : CpuEnd) → end ≡ Fault → fault_at end ≡ 1
fault_is end is = ap fault_at is

pub unfaulted : (end : CpuEnd) (P : Type 0) → fault_at end ≡ 0 → UnlessFault end P → P
unfaulted Whole P none h = h
unfaulted Fault P none h = absurd (omega (arith, none))
unfaulted (Damaged damage) P none h = h

-- a source that was fresh gave these bytes, and no others
gave_all : (first given bytes : List ℕ) → first ≡ [] → given ≡ first ++ bytes → given ≡ bytes
gave_all first given bytes fresh is = is ∙ ap (λ b. b ++ bytes) fresh

-- so that its entry is that of its capture
pub entry_given : (held : Option Contents) (name : List ℕ) (o n : SourceSeen) (bytes : List ℕ)
    (end : CpuEnd) → IsFresh held name o → Gave o n bytes end
    → entry_of n ≡ capture_entry name true bytes end
entry_given held name o n bytes Whole fresh gave =
    entry_unfailed n name bytes (gave.name_is ∙ fresh.named)
    (gave_all o.given n.given bytes fresh.unread gave.given_is) (gave.faultless ∙ fresh.faultless)
entry_given held name o n bytes (Damaged damage) fresh gave =
    entry_unfailed n name bytes (gave.name_is ∙ fresh.named)
    (gave_all o.given n.given bytes fresh.unread gave.given_is) (gave.faultless ∙ fresh.faultless)
entry_given held name o n bytes Fault fresh gave =
    entry_failed n name bytes (gave.name_is ∙ fresh.named)
    (gave_all o.given n.given bytes fresh.unread gave.given_is)
    (let none = fresh.faultless in let rose = gave.fault in omega (arith, none, rose))
