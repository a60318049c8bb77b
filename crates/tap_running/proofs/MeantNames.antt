-- Names that are meant.
use Rattle.setup_text.specs.declared.cpu_setups.CpuSetup.{CpuSetup}
use Rattle.std.proofs.Common.{Bool, List, None, Option, Some, [], subst, sym, ℕ, ◌++◌, ◌∷◌, ◌≡◌}
use Rattle.std.proofs.lemmas.List.Elements.{All-from_recursion}
use Rattle.std.specs.List.{AllByRecursion}
use Rattle.std.specs.Prelude.{All, IfSome, IsTrue, map, option_map, option_to_list}
use Rattle.tap_outside.specs.Contents.{Contents}

-- each of these names is meant
abbrev pub AllMeant : (List ℕ → Bool) → List (List ℕ) → Type 0
AllMeant meant names = AllByRecursion (λ name. IsTrue (meant name)) names

-- every name of a store that doesn't report what it holds
abbrev pub Untold : Option Contents → (List ℕ → Bool) → Type 0
Untold held meant = (name : List ℕ) → held ≡ None → IsTrue (meant name)

pub any_name : (meant : List ℕ → Bool) (names : List (List ℕ)) → ((name : List ℕ) → IsTrue (meant name))
    → AllMeant meant names
any_name meant [] any = tt
any_name meant (name ∷ names) any = (any name, any_name meant names any)

pub option_meant : (meant : List ℕ → Bool) (name : Option (List ℕ)) (names : List (List ℕ))
    → AllMeant meant (option_to_list name ++ names)
    → IfSome name (λ name. IsTrue (meant name)) × AllMeant meant names
option_meant meant None names all = (tt, all)
option_meant meant (Some name) names all = (all.0, all.1)

-- also if the name is borrowed
pub lent_meant : {A : Type 0} (meant : List ℕ → Bool) (now : A → List ℕ) (lent : Option A)
    (name : Option (List ℕ))
    → option_map now lent ≡ name
    → IfSome name (λ name. IsTrue (meant name)) → IfSome lent (λ word. IsTrue (meant (now word)))
lent_meant meant now None name is all = tt
lent_meant meant now (Some word) name is all =
    subst (λ (o : Option (List ℕ)). IfSome o (λ name. IsTrue (meant name))) (sym is) all

pub files_meant : (meant : List ℕ → Bool) (cpus : List CpuSetup)
    → AllMeant meant (map (λ cpu. cpu.file) cpus)
    → AllByRecursion (λ cpu. IsTrue (meant cpu.file)) cpus
files_meant meant [] all = tt
files_meant meant (cpu ∷ cpus) all = (all.0, files_meant meant cpus all.1)

pub captures_meant : (meant : List ℕ → Bool) (cpus : List CpuSetup)
    → AllMeant meant (map (λ cpu. cpu.file) cpus)
    → All (λ cpu. IsTrue (meant cpu.file)) cpus
captures_meant meant cpus all =
    All-from_recursion (λ (cpu : CpuSetup). IsTrue (meant cpu.file)) cpus
    (files_meant meant cpus all)
