-- What saves, one after another, change in a store.
use Rattle.std.proofs.Common.{◌≡◌, ℕ, List, ◌∷◌, refl, ap, ◌∙◌, arith}
use Rattle.std.specs.Prelude.{Option, None, Some}
use Rattle.tap_outside.specs.Contents.{Contents, KeepsOthers}
use Rattle.tap_outside.specs.Seen.{OnlySaves, StoreSeen}
use Rattle.tap_saving.specs.Saves.{IsApart, KeepsAllBut, Touches}

-- ---- what names hold

keeps_all : (held : Option Contents) (names : List (List ℕ)) → KeepsAllBut held held names
keeps_all None names = tt
keeps_all (Some files) names = λ name apart. refl

keeps_then : (a b c : Option Contents) (name : List ℕ) (names : List (List ℕ))
    → KeepsOthers a b name → KeepsAllBut b c names → KeepsAllBut a c (name ∷ names)
keeps_then None b c name names h k = tt
keeps_then (Some a) None c name names h k = absurd h
keeps_then (Some a) (Some b) None name names h k = absurd k
keeps_then (Some a) (Some b) (Some c) name names h k =
    λ other apart. k other apart.1 ∙ h other apart.0

keeps_fewer : (old new : Option Contents) (few many : List (List ℕ))
    → ((name : List ℕ) → IsApart name many → IsApart name few)
    → KeepsAllBut old new few → KeepsAllBut old new many
keeps_fewer None new few many within keeps = tt
keeps_fewer (Some old) None few many within keeps = keeps
keeps_fewer (Some old) (Some new) few many within keeps =
    λ name apart. keeps name (within name apart)

-- ---- what is touched

pub read_faults_touched : {old new : StoreSeen} {names : List (List ℕ)}
    → Touches old new names → new.read_faults ≡ old.read_faults
read_faults_touched t = ap (λ (s : StoreSeen). s.read_faults) t.same

pub touches_none : (a : StoreSeen) (names : List (List ℕ)) → Touches a a names
touches_none a names = record {
  same = refl;
  others = keeps_all a.held names;
  later = omega arith;
}

-- one save, and others
pub touches_then : (a b c : StoreSeen) (name : List ℕ) (names : List (List ℕ))
    → OnlySaves a b name → Touches b c names → Touches a c (name ∷ names)
touches_then a b c name names h k = record {
  same = k.same
      ∙ ap (λ (s : StoreSeen). record s { held = c.held; save_faults = c.save_faults }) h.same;
  others = keeps_then a.held b.held c.held name names h.others k.others;
  later = let x = h.later in let y = k.later in omega (arith, x, y);
}

-- these names are among others
pub touches_more : (a b : StoreSeen) (few many : List (List ℕ))
    → ((name : List ℕ) → IsApart name many → IsApart name few)
    → Touches a b few → Touches a b many
touches_more a b few many within t = record {
  same = t.same;
  others = keeps_fewer a.held b.held few many within t.others;
  later = t.later;
}
