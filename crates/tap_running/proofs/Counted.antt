-- The faults of reading that a store counted: for one read text or capture, and for several.
use Rattle.std.proofs.Common.{Bool, arith, false, refl, subst, sym, true, ℕ, ◌+◌, ◌<◌, ◌≡◌, ◌≤◌}
use Rattle.std.proofs.lemmas.Bool.{eqb-false, eqb-true}
use Rattle.std.specs.Prelude.{if◌then◌else◌, ◌==◌}
use Rattle.tap_outside.specs.Counts.{Rose}
use Rattle.tap_outside.specs.Seen.{NoReadFailed, OnlyReads, StoreSeen}
use Rattle.tap_running.proofs.Stores.{rose_earlier, rose_less, rose_then, unfailed_then}
use Rattle.tap_running.specs.Counts.{IsCounted}

pub reads_none : (a : StoreSeen) → OnlyReads a a
reads_none a = record { same = refl; later = omega arith }

pub unfailed_none : (a : StoreSeen) → NoReadFailed a a
unfailed_none a = record { only = reads_none a; exact = λ is. refl }

pub unfailed_same : (a b : StoreSeen) → b ≡ a → NoReadFailed a b
unfailed_same a b same = subst (λ (s : StoreSeen). NoReadFailed a s) (sym same) (unfailed_none a)

pub unfailed_by : (faults : ℕ) (a b : StoreSeen) → OnlyReads a b
    → (faults ≡ 0 → b.read_faults ≡ a.read_faults) → faults ≡ 0 → NoReadFailed a b
unfailed_by faults a b only kept none = record { only = only; exact = λ is. kept none }

pub counts_none : (n : ℕ) (a : StoreSeen) → n ≡ 0 → IsCounted a a n
counts_none n a none = record { rose = omega (arith, none); faultless = λ zero. unfailed_none a }

pub no_sum : (x y : ℕ) → x + y ≡ 0 → (x ≡ 0) × (y ≡ 0)
no_sum x y none = (omega (arith, none), omega (arith, none))

pub counts_then : (x y : ℕ) (a b c : StoreSeen) → IsCounted a b x → IsCounted b c y
    → IsCounted a c (x + y)
counts_then x y a b c h k = record {
  rose = rose_then x y a.read_faults b.read_faults c.read_faults h.rose k.rose;
  faultless = λ none. let both = no_sum x y none in
      unfailed_then a b c (h.faultless both.0) (k.faultless both.1);
}

-- fewer faults, but none only if there was none
pub counts_less : (x y : ℕ) (a b : StoreSeen) → x ≤ y → (x ≡ 0 → y ≡ 0) → IsCounted a b y
    → IsCounted a b x
counts_less x y a b less none h = record {
  rose = rose_less x y a.read_faults b.read_faults less h.rose;
  faultless = λ zero. h.faultless (none zero);
}

-- if no read had failed before
pub counts_later : (n : ℕ) (a b c : StoreSeen) → NoReadFailed a b → IsCounted b c n
    → IsCounted a c n
counts_later n a b c before h = record {
  rose = rose_earlier n a b c before.only h.rose;
  faultless = λ none. unfailed_then a b c before (h.faultless none);
}

pub counts_fetched : (a b : StoreSeen) → NoReadFailed a b → IsCounted a b 0
counts_fetched a b none = record {
  rose = let later = none.only.later in omega (arith, later);
  faultless = λ zero. none;
}

pub counts_missing : (a b : StoreSeen) → Rose a.read_faults b.read_faults → IsCounted a b 1
counts_missing a b rose =
    record { rose = rose; faultless = λ zero. absurd (omega (arith, zero)) }

pub closed_by : (faults : ℕ) (b : Bool) (old new : StoreSeen) → (faults == 0) ≡ b → OnlyReads old new
    → (faults ≡ 0 → new.read_faults ≡ old.read_faults)
    → (0 < faults → Rose old.read_faults new.read_faults)
    → IsCounted old new ((if b then 0 else 1) + 0)
closed_by faults true old new is only kept rose =
    counts_fetched old new (unfailed_by faults old new only kept (eqb-true faults 0 is))
closed_by faults false old new is only kept rose =
    let some = eqb-false faults 0 is in
    counts_missing old new (rose (omega (arith, some)))
