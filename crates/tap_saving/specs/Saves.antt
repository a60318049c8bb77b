-- The effect of saving on a store.
use Rattle.std.specs.Prelude.{◌≡◌, ◌≢◌, ◌≤◌, ℕ, ◌+◌, Bool, true, false, IsTrue, MatchBool, List, []}
use Rattle.std.specs.Prelude.{◌∷◌, ⊤, Option, None, Some, ◌⊎◌}
use Rattle.std.specs.List.{AllByRecursion}
use Rattle.tap_outside.specs.Contents.{Contents, HoldsFile}
use Rattle.tap_outside.specs.Counts.{RoseBy}
use Rattle.tap_outside.specs.Seen.{StoreSeen}
use Rattle.tap_saving.specs.Files.{File}

-- ---- what a name holds

-- the name holds its file's bytes, if the store reported its content before
abbrev pub HoldsNow : Option Contents → Option Contents → File → Type 0
HoldsNow None after file = ⊤
HoldsNow (Some before) after file = HoldsFile after file.name file.bytes

-- the name holds what it held, or its file's bytes
abbrev pub HoldsOldOrNew : Option Contents → Option Contents → File → Type 0
HoldsOldOrNew None after file = ⊤
HoldsOldOrNew (Some before) None file = ⊥
HoldsOldOrNew (Some before) (Some after) file =
    (after file.name ≡ before file.name) ⊎ (after file.name ≡ Some file.bytes)

-- ---- files of which some are missed

-- the fact holds of each file, except those that are marked as missed
abbrev pub AllUnless : (File → Type 0) → List Bool → List File → Type 0
AllUnless fact [] [] = ⊤
AllUnless fact (true ∷ missed) (file ∷ files) = AllUnless fact missed files
AllUnless fact (false ∷ missed) (file ∷ files) = fact file × AllUnless fact missed files
AllUnless fact missed files = ⊥

-- each file holds its bytes, except those that are marked
abbrev pub HoldUnless : List Bool → Option Contents → Option Contents → List File → Type 0
HoldUnless missed before after files = AllUnless (HoldsNow before after) missed files

-- each file holds its bytes
abbrev pub HoldAll : Option Contents → Option Contents → List File → Type 0
HoldAll before after [] = ⊤
HoldAll before after (file ∷ files) = HoldsNow before after file × HoldAll before after files

-- how many are marked
abbrev pub marked : List Bool → ℕ
marked [] = 0
marked (true ∷ missed) = marked missed + 1
marked (false ∷ missed) = marked missed

-- ---- other names

-- a name that is none of these
abbrev pub IsApart : List ℕ → List (List ℕ) → Type 0
IsApart name names = AllByRecursion (λ other. name ≢ other) names

-- every name except these holds what it held
abbrev pub KeepsAllBut : Option Contents → Option Contents → List (List ℕ) → Type 0
KeepsAllBut None new names = ⊤
KeepsAllBut (Some old) None names = ⊥
KeepsAllBut (Some old) (Some new) names =
    (name : List ℕ) → IsApart name names → new name ≡ old name

-- ---- what a call does

-- nothing changes except what these names hold, and the count of failed saves, which may rise
pub record Touches (old new : StoreSeen) (names : List (List ℕ)) : Type 0 where
  pub same : new ≡ record old { held = new.held; save_faults = new.save_faults }
  pub others : KeepsAllBut old.held new.held names
  pub later : old.save_faults ≤ new.save_faults

-- no save failed: an exact store's count of failed saves is unchanged
abbrev pub NoSaveFailed : StoreSeen → StoreSeen → Type 0
NoSaveFailed old new = IsTrue old.exact → new.save_faults ≡ old.save_faults

-- the files were saved, or not all of them; a file is missed only if the count of faults rose for
-- it
pub record Saved (old new : StoreSeen) (files : List File) (all : Bool) : Type 0 where
  pub missed : List Bool
  pub hold : HoldUnless missed old.held new.held files
  pub rose : RoseBy (marked missed) old.save_faults new.save_faults
  pub none_or_some : MatchBool all (marked missed ≡ 0) (1 ≤ marked missed)
  -- if all were saved no save failed
  pub faultless : MatchBool all (NoSaveFailed old new) ⊤

-- saving ended early: each name holds what it held or its file's bytes; a name is missed, and may
-- hold anything, only if the count of faults rose for it
pub record SavedSome (old new : StoreSeen) (files : List File) : Type 0 where
  pub missed : List Bool
  pub hold : AllUnless (HoldsOldOrNew old.held new.held) missed files
  pub rose : RoseBy (marked missed) old.save_faults new.save_faults
