-- A list of which some of the first elements are mapped.
use Rattle.std.proofs.Common.{◌≡◌, ℕ, zero, suc, ◌<◌, ◌≤◌, List, [], ◌∷◌, length, get_or, set, map, add-one, refl, sym, ap}
use Rattle.std.proofs.Common.{◌∙◌, ◌+◌, arith, subst}
use Rattle.std.specs.Prelude.{All}
use Rattle.std.proofs.lemmas.List.Elements.{All-get_or}

module _ {X : Type 0} (f : X → X) where
  abbrev pub mapped : ℕ → List X → List X
  mapped zero all = all
  mapped (suc count) [] = []
  mapped (suc count) (x ∷ all) = f x ∷ mapped count all

  pub mapped_all : (count : ℕ) (all : List X) → length all ≤ count → mapped count all ≡ map f all
  mapped_all zero [] h = refl
  mapped_all zero (x ∷ all) h = absurd (omega (arith, h))
  mapped_all (suc count) [] h = refl
  mapped_all (suc count) (x ∷ all) h = ap (λ (rest : List X). f x ∷ rest) (mapped_all count all (omega (arith, h)))

  -- the next one isn't mapped yet
  pub mapped_at : (count : ℕ) (all : List X) (default : X) → get_or (mapped count all) count default ≡ get_or all count default
  mapped_at zero all default = refl
  mapped_at (suc count) [] default = refl
  mapped_at (suc count) (x ∷ all) default = mapped_at count all default

  -- one more
  pub mapped_next : (count : ℕ) (all : List X) (default : X) → count < length all
      → set (mapped count all) count (f (get_or all count default)) ≡ mapped (suc count) all
  mapped_next count [] default h = absurd (omega (arith, h))
  mapped_next zero (x ∷ all) default h = refl
  mapped_next (suc count) (x ∷ all) default h =
      ap (λ (rest : List X). f x ∷ rest) (mapped_next count all default (omega (arith, h)))

  -- the same of a list that is known to be so
  pub next_of : (count : ℕ) (all later : List X) (default new : X) → later ≡ mapped count all → count < length all
      → new ≡ f (get_or later count default) → set later count new ≡ mapped (count + 1) all
  next_of count all later default new e inside n =
      ap (set later count) n
      ∙ ap (λ (xs : List X). set xs count (f (get_or xs count default))) e
      ∙ ap (λ (x : X). set (mapped count all) count (f x)) (mapped_at count all default)
      ∙ mapped_next count all default inside
      ∙ ap (λ (n : ℕ). mapped n all) (sym (add-one count))

  pub holds_at : (P : X → Type 0) (count : ℕ) (all later : List X) (default : X) → later ≡ mapped count all
      → count < length all → All P all → P (get_or later count default)
  holds_at P count all later default e inside h =
      subst (λ (xs : List X). P (get_or xs count default)) (sym e)
      (subst P (sym (mapped_at count all default)) (All-get_or P all count default inside h))

  pub mapped_alone : ((x : X) → x ≡ f x) → (all : List X) → all ≡ map f all
  mapped_alone same [] = refl
  mapped_alone same (x ∷ all) = cc (same x, mapped_alone same all)
