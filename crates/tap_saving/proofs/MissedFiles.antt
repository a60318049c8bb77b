-- Which files are missed by saves, one after another.
use Rattle.std.proofs.Common.{◌≡◌, ◌≢◌, ◌<◌, ℕ, Bool, true, false, List, [], ◌∷◌, ◌++◌}
use Rattle.std.proofs.Common.{◌+◌, refl, sym, ap, ◌∙◌, subst, arith, length, get_or, inl, inr}
use Rattle.std.proofs.Common.{length-append}
use Rattle.std.specs.Prelude.{◌&&◌, IfOk, MatchBool, ⊤, Option, None, Some, Result}
use Rattle.std.proofs.lemmas.Result.{IfOk-weaker}
use Rattle.frame_view.specs.declared.memory.Memory.{Memory}
use Rattle.tap_outside.specs.Contents.{Contents, HoldsFile, KeepsOthers}
use Rattle.tap_outside.specs.Seen.{OnlySaves, StoreSeen}
use Rattle.tap_saving.specs.Files.{File}
use Rattle.tap_saving.specs.Saves.{AllUnless, HoldsNow, HoldsOldOrNew, IsApart, KeepsAllBut}
use Rattle.tap_saving.specs.Saves.{NoSaveFailed, Saved, SavedSome, Touches, marked}
use Rattle.tap_saving.specs.inside.Plans.{HaveOwnNames, IsTried, names_of}
use Rattle.tap_saving.proofs.Stores.{touches_none, touches_then}

-- ---- what saves do

-- files were tried one after another, with these answers; those without an answer weren't tried
abbrev pub AreTried : StoreSeen → StoreSeen → List Bool → List File → Type 0
AreTried old new [] files = new ≡ old
AreTried old new (saved ∷ answers) [] = ⊥
AreTried old new (saved ∷ answers) (file ∷ files) =
    (next : StoreSeen)
    × OnlySaves old next file.name
    × IsTried old next file saved
    × AreTried next new answers files

abbrev are_saved : List Bool → Bool
are_saved [] = true
are_saved (true ∷ answers) = are_saved answers
are_saved (false ∷ answers) = false

-- that many files were tried, and all were saved or not
pub record TriedFirst (old new : StoreSeen) (files : List File) (many : ℕ) (all : Bool) : Type 0
  where
    pub answers : List Bool
    pub tried : AreTried old new answers files
    pub many_is : length answers ≡ many
    pub all_is : all ≡ are_saved answers

-- ---- files and marks

-- another fact holds of files whose names are apart from this one
all_still : (P Q : File → Type 0) (name : List ℕ) (missed : List Bool) (files : List File)
    → ((file : File) → name ≢ file.name → P file → Q file) → IsApart name (names_of files)
    → AllUnless P missed files → AllUnless Q missed files
all_still P Q name [] [] step apart all = tt
all_still P Q name [] (file ∷ files) step apart all = absurd all
all_still P Q name (true ∷ missed) [] step apart all = absurd all
all_still P Q name (false ∷ missed) [] step apart all = absurd all
all_still P Q name (true ∷ missed) (file ∷ files) step apart all =
    all_still P Q name missed files step apart.1 all
all_still P Q name (false ∷ missed) (file ∷ files) step apart all =
    (step file apart.0 all.0, all_still P Q name missed files step apart.1 all.1)

-- no file is marked
abbrev unmarked : List File → List Bool
unmarked [] = []
unmarked (file ∷ files) = false ∷ unmarked files

none_marked : (files : List File) → marked (unmarked files) ≡ 0
none_marked [] = refl
none_marked (file ∷ files) = none_marked files

all_old : (held : Option Contents) (files : List File)
    → AllUnless (HoldsOldOrNew held held) (unmarked files) files
all_old held [] = tt
all_old None (file ∷ files) = (tt, all_old None files)
all_old (Some old) (file ∷ files) = (inl refl, all_old (Some old) files)

-- ---- what a name holds

-- a file that was saved is still there when others were
kept : (a b c : Option Contents) (file : File) (names : List (List ℕ))
    → KeepsOthers a b file.name → HoldsFile b file.name file.bytes
    → KeepsAllBut b c names → IsApart file.name names → HoldsNow a c file
kept None b c file names h holds k apart = tt
kept (Some a) None c file names h holds k apart = absurd h
kept (Some a) (Some b) None file names h holds k apart = absurd k
kept (Some a) (Some b) (Some c) file names h holds k apart = k file.name apart ∙ holds

-- a store that reported its content before a save reports it afterwards too
later : (a b c : Option Contents) (name : List ℕ) (file : File) → KeepsOthers a b name
    → HoldsNow b c file → HoldsNow a c file
later None b c name file h holds = tt
later (Some a) None c name file h holds = absurd h
later (Some a) (Some b) c name file h holds = holds

now_new : (a b : Option Contents) (names : List (List ℕ)) (file : File)
    → KeepsAllBut a b names → HoldsNow a b file → HoldsOldOrNew a b file
now_new None b names file h holds = tt
now_new (Some a) None names file h holds = absurd h
now_new (Some a) (Some b) names file h holds = inr holds

-- what a name holds that the first save didn't touch
old_new_later : (a b c : Option Contents) (name : List ℕ) (file : File) → KeepsOthers a b name
    → name ≢ file.name → HoldsOldOrNew b c file → HoldsOldOrNew a c file
old_new_later None b c name file h differ holds = tt
old_new_later (Some a) None c name file h differ holds = absurd h
old_new_later (Some a) (Some b) None name file h differ holds = absurd holds
old_new_later (Some a) (Some b) (Some c) name file h differ (inl old) =
    inl (old ∙ h file.name (λ same. differ (sym same)))
old_new_later (Some a) (Some b) (Some c) name file h differ (inr new) = inr new

-- ---- files that were tried

-- if all were saved no save failed
faultless_then : (a b c : StoreSeen) (all : Bool) (name : List ℕ) → OnlySaves a b name
    → NoSaveFailed a b → MatchBool all (NoSaveFailed b c) ⊤ → MatchBool all (NoSaveFailed a c) ⊤
faultless_then a b c true name only h k =
    λ exact. k (ap (λ (s : StoreSeen). s.exact) only.same ∙ exact) ∙ h exact
faultless_then a b c false name only h k = tt

pub tried_touch : (a b : StoreSeen) (answers : List Bool) (files : List File)
    → AreTried a b answers files → Touches a b (names_of files)
tried_touch a b [] files same =
    subst (λ (s : StoreSeen). Touches a s (names_of files)) (sym same)
    (touches_none a (names_of files))
tried_touch a b (saved ∷ answers) [] t = absurd t
tried_touch a c (saved ∷ answers) (file ∷ files) (b, only, one, rest) =
    touches_then a b c file.name (names_of files) only (tried_touch b c answers files rest)

-- all files were tried
pub tried_saved : (a b : StoreSeen) (answers : List Bool) (files : List File)
    → HaveOwnNames files → length answers ≡ length files → AreTried a b answers files
    → Saved a b files (are_saved answers)
tried_saved a b [] [] own many same =
    subst (λ (s : StoreSeen). Saved a s [] true) (sym same) (record {
      missed = [];
      hold = tt;
      rose = omega arith;
      none_or_some = omega arith;
      faultless = λ exact. refl;
    })
tried_saved a b [] (file ∷ files) own many t = absurd (omega (arith, many))
tried_saved a b (saved ∷ answers) [] own many t = absurd t
tried_saved a c (true ∷ answers) (file ∷ files) own many (b, only, one, rest) =
    let k = tried_saved b c answers files own.1 (omega (arith, many)) rest in
    let touched = tried_touch b c answers files rest in
    let rose = k.rose in
    let first = only.later in
    record {
      missed = false ∷ k.missed;
      hold = (
        kept a.held b.held c.held file (names_of files) only.others one.0 touched.others own.0,
        all_still (HoldsNow b.held c.held) (HoldsNow a.held c.held) file.name k.missed files
            (λ other differ. later a.held b.held c.held file.name other only.others) own.0 k.hold,
      );
      rose = omega (arith, rose, first);
      none_or_some = k.none_or_some;
      faultless = faultless_then a b c (are_saved answers) file.name only one.1 k.faultless;
    }
tried_saved a c (false ∷ answers) (file ∷ files) own many (b, only, one, rest) =
    let k = tried_saved b c answers files own.1 (omega (arith, many)) rest in
    let rose = k.rose in
    record {
      missed = true ∷ k.missed;
      hold =
          all_still (HoldsNow b.held c.held) (HoldsNow a.held c.held) file.name k.missed files
          (λ other differ. later a.held b.held c.held file.name other only.others) own.0 k.hold;
      rose = omega (arith, rose, one);
      none_or_some = omega arith;
      faultless = tt;
    }

-- one file alone was tried
pub saved_alone : (a b : StoreSeen) (file given : File) (result : Result Bool Memory)
    → given ≡ file → OnlySaves a b given.name → IfOk result (IsTried a b given)
    → IfOk result (Saved a b (file ∷ []))
saved_alone a b file given result is only tried =
    subst (λ (f : File). IfOk result (Saved a b (f ∷ []))) is
    (IfOk-weaker result (IsTried a b given) (Saved a b (given ∷ [])) alone tried)
  where
    alone : (saved : Bool) → IsTried a b given saved → Saved a b (given ∷ []) saved
    alone true one = tried_saved a b (true ∷ []) (given ∷ []) (tt, tt) refl (b, only, one, refl)
    alone false one = tried_saved a b (false ∷ []) (given ∷ []) (tt, tt) refl (b, only, one, refl)

-- no file was tried
pub none_saved : (a b : StoreSeen) (files : List File) → b ≡ a → SavedSome a b files
none_saved a b files same =
    subst (λ (s : StoreSeen). SavedSome a s files) (sym same) (record {
      missed = unmarked files;
      hold = all_old a.held files;
      rose = let none = none_marked files in omega (arith, none);
    })

-- some files were tried
pub tried_some : (a b : StoreSeen) (answers : List Bool) (files : List File)
    → HaveOwnNames files → AreTried a b answers files → SavedSome a b files
tried_some a b [] files own same = none_saved a b files same
tried_some a b (saved ∷ answers) [] own t = absurd t
tried_some a c (true ∷ answers) (file ∷ files) own (b, only, one, rest) =
    let k = tried_some b c answers files own.1 rest in
    let touched = tried_touch b c answers files rest in
    let both = touches_then a b c file.name (names_of files) only touched in
    let rose = k.rose in
    let first = only.later in
    record {
      missed = false ∷ k.missed;
      hold = (
        now_new a.held c.held (file.name ∷ names_of files) file both.others
            (kept a.held b.held c.held file (names_of files) only.others one.0 touched.others own.0),
        all_still (HoldsOldOrNew b.held c.held) (HoldsOldOrNew a.held c.held) file.name k.missed
            files (λ other. old_new_later a.held b.held c.held file.name other only.others) own.0
            k.hold,
      );
      rose = omega (arith, rose, first);
    }
tried_some a c (false ∷ answers) (file ∷ files) own (b, only, one, rest) =
    let k = tried_some b c answers files own.1 rest in
    let rose = k.rose in
    record {
      missed = true ∷ k.missed;
      hold =
          all_still (HoldsOldOrNew b.held c.held) (HoldsOldOrNew a.held c.held) file.name k.missed
          files (λ other. old_new_later a.held b.held c.held file.name other only.others) own.0
          k.hold;
      rose = omega (arith, rose, one);
    }

-- ---- one file more

tried_more : (a b c : StoreSeen) (answers : List Bool) (files : List File) (file : File)
    (saved : Bool) → AreTried a b answers files → get_or files (length answers) file ≡ file
    → length answers < length files → OnlySaves b c file.name → IsTried b c file saved
    → AreTried a c (answers ++ saved ∷ []) files
tried_more a b c [] [] file saved same is less only one = absurd (omega (arith, less))
tried_more a b c [] (first ∷ files) file saved same is less only one =
    let here = subst (λ (s : StoreSeen). OnlySaves s c first.name × IsTried s c first saved) same
    (subst (λ (f : File). OnlySaves b c f.name × IsTried b c f saved) (sym is) (only, one)) in
    (c, here.0, here.1, refl)
tried_more a b c (x ∷ answers) [] file saved t is less only one = absurd t
tried_more a b c (x ∷ answers) (first ∷ files) file saved (next, its, tried, rest) is less only one =
    (next, its, tried, tried_more next b c answers files file saved rest is (omega (arith, less)) only one)

saved_more : (answers : List Bool) (saved : Bool)
    → (are_saved answers && saved) ≡ are_saved (answers ++ saved ∷ [])
saved_more [] true = refl
saved_more [] false = refl
saved_more (true ∷ answers) saved = saved_more answers saved
saved_more (false ∷ answers) saved = refl

pub first_more : (a b c : StoreSeen) (files : List File) (many : ℕ) (file : File) (all saved : Bool)
    → TriedFirst a b files many all → get_or files many file ≡ file → many < length files
    → OnlySaves b c file.name → IsTried b c file saved
    → TriedFirst a c files (many + 1) (all && saved)
first_more a b c files many file all saved t is less only one = record {
  answers = t.answers ++ saved ∷ [];
  tried = tried_more a b c t.answers files file saved t.tried
      (rw t.many_is is) (let m = t.many_is in omega (arith, m, less)) only one;
  many_is = let m = t.many_is in let l = length-append t.answers (saved ∷ []) in omega (arith, m, l);
  all_is = ap (λ b. b && saved) t.all_is ∙ saved_more t.answers saved;
}

pub first_saved : (a b : StoreSeen) (files : List File) (many : ℕ) (all : Bool)
    → HaveOwnNames files → many ≡ length files → TriedFirst a b files many all → Saved a b files all
first_saved a b files many all own whole t =
    subst (λ x. Saved a b files x) (sym t.all_is)
    (tried_saved a b t.answers files own (t.many_is ∙ whole) t.tried)
