-- A store that is only read, one call after another.
use Rattle.std.proofs.Common.{ap, arith, inl, inr, ℕ, ◌+◌, ◌<◌, ◌∙◌, ◌≡◌, ◌≤◌}
use Rattle.std.proofs.lemmas.Bool.{cases_lt}
use Rattle.std.specs.Prelude.{◌⊎◌}
use Rattle.tap_outside.specs.Counts.{RoseBy}
use Rattle.tap_outside.specs.Seen.{NoReadFailed, OnlyReads, StoreSeen}

pub rose_then : (x y a b c : ℕ) → RoseBy x a b → RoseBy y b c → RoseBy (x + y) a c
rose_then x y a b c h k = omega (arith, h, k)

pub rose_less : (x y a b : ℕ) → x ≤ y → RoseBy y a b → RoseBy x a b
rose_less x y a b h k = omega (arith, h, k)

pub reads_then : (a b c : StoreSeen) → OnlyReads a b → OnlyReads b c → OnlyReads a c
reads_then a b c h k = record {
  same = k.same
      ∙ ap (λ (s : StoreSeen). record s { read_faults = c.read_faults; sources = c.sources }) h.same;
  later = let x = h.later in let y = k.later in omega (arith, x, y);
}

pub held_same : (a b : StoreSeen) → OnlyReads a b → b.held ≡ a.held
held_same a b h = ap (λ (s : StoreSeen). s.held) h.same

pub exact_same : (a b : StoreSeen) → OnlyReads a b → b.exact ≡ a.exact
exact_same a b h = ap (λ (s : StoreSeen). s.exact) h.same

pub to_read_same : (a b : StoreSeen) → OnlyReads a b → b.to_read ≡ a.to_read
to_read_same a b h = ap (λ (s : StoreSeen). s.to_read) h.same

pub to_save_same : (a b : StoreSeen) → OnlyReads a b → b.to_save ≡ a.to_save
to_save_same a b h = ap (λ (s : StoreSeen). s.to_save) h.same

pub saves_same : (a b : StoreSeen) → OnlyReads a b → b.save_faults ≡ a.save_faults
saves_same a b h = ap (λ (s : StoreSeen). s.save_faults) h.same

-- a count that rose after a store was read has risen since before
pub rose_earlier : (n : ℕ) (a b c : StoreSeen) → OnlyReads a b
    → RoseBy n b.read_faults c.read_faults → RoseBy n a.read_faults c.read_faults
rose_earlier n a b c h k = let later = h.later in omega (arith, later, k)

pub unfailed_then : (a b c : StoreSeen) → NoReadFailed a b → NoReadFailed b c → NoReadFailed a c
unfailed_then a b c h k = record {
  only = reads_then a b c h.only k.only;
  exact = λ is. k.exact (exact_same a b h.only ∙ is) ∙ h.exact is;
}

-- no fault rose, so none was counted
pub none_rose : (n before now : ℕ) → (RoseBy 1 before now → ⊥) → RoseBy n before now → n ≡ 0
none_rose n before now sane h = by (cases_lt 0 n) where
  by : (0 < n) ⊎ (n ≤ 0) → n ≡ 0
  by (inl some) = absurd (sane (rose_less 1 n before now (omega (arith, some)) h))
  by (inr none) = omega (arith, none)
