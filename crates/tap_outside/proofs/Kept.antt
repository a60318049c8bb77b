-- What a store keeps if it is only read, or only saved to.
use Rattle.std.proofs.Common.{◌≡◌, ℕ, List, refl, sym, ap, ◌∙◌, subst, arith}
use Rattle.tap_outside.specs.Seen.{NoReadFailed, OnlyReads, OnlySaves, StoreSeen}

-- ---- if it is only read

pub held_kept : {old new : StoreSeen} → OnlyReads old new → new.held ≡ old.held
held_kept only = ap (λ (s : StoreSeen). s.held) only.same

pub to_read_kept : {old new : StoreSeen} → OnlyReads old new → new.to_read ≡ old.to_read
to_read_kept only = ap (λ (s : StoreSeen). s.to_read) only.same

pub to_save_kept : {old new : StoreSeen} → OnlyReads old new → new.to_save ≡ old.to_save
to_save_kept only = ap (λ (s : StoreSeen). s.to_save) only.same

pub save_faults_kept : {old new : StoreSeen} → OnlyReads old new → new.save_faults ≡ old.save_faults
save_faults_kept only = ap (λ (s : StoreSeen). s.save_faults) only.same

-- a store that stays as it is is only read
pub OnlyReads-none : (store : StoreSeen) → OnlyReads store store
OnlyReads-none store = record { same = refl; later = omega arith }

pub OnlyReads-same : (old new : StoreSeen) → new ≡ old → OnlyReads old new
OnlyReads-same old new e = subst (λ (s : StoreSeen). OnlyReads old s) (sym e) (OnlyReads-none old)

-- so is one that is only read twice
pub OnlyReads-then : (a b c : StoreSeen) → OnlyReads a b → OnlyReads b c → OnlyReads a c
OnlyReads-then a b c first second = record {
  same = second.same
      ∙ ap (λ (s : StoreSeen). record s { read_faults = c.read_faults; sources = c.sources }) first.same;
  later = let x = first.later in let y = second.later in omega (arith, x, y);
}

-- ---- if no read failed

pub exact_kept : {old new : StoreSeen} → OnlyReads old new → new.exact ≡ old.exact
exact_kept only = ap (λ (s : StoreSeen). s.exact) only.same

-- none failed in a store that stays as it is
pub NoReadFailed-none : (store : StoreSeen) → NoReadFailed store store
NoReadFailed-none store = record { only = OnlyReads-none store; exact = λ is. refl }

-- nor if none failed before and none after
pub NoReadFailed-then : (a b c : StoreSeen) → NoReadFailed a b → NoReadFailed b c
    → NoReadFailed a c
NoReadFailed-then a b c first second = record {
  only = OnlyReads-then a b c first.only second.only;
  exact = λ is. second.exact (exact_kept first.only ∙ is) ∙ first.exact is;
}

-- ---- if it is only saved to

pub to_read_saved : {old new : StoreSeen} {name : List ℕ}
    → OnlySaves old new name → new.to_read ≡ old.to_read
to_read_saved only = ap (λ (s : StoreSeen). s.to_read) only.same

pub to_save_saved : {old new : StoreSeen} {name : List ℕ}
    → OnlySaves old new name → new.to_save ≡ old.to_save
to_save_saved only = ap (λ (s : StoreSeen). s.to_save) only.same

pub read_faults_saved : {old new : StoreSeen} {name : List ℕ}
    → OnlySaves old new name → new.read_faults ≡ old.read_faults
read_faults_saved only = ap (λ (s : StoreSeen). s.read_faults) only.same
