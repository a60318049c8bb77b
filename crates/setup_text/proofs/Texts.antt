-- The texts beside the setup: what is known of their items.
use Rattle.std.proofs.Common.{◌≡◌, ℕ, ◌<◌, ◌≤◌, Bool, true, false, List, [], length, refl, ap, ◌∙◌, arith, Err}
use Rattle.std.specs.Prelude.{Result, nat_lt, if◌then◌else◌}
use Rattle.text_lines.specs.Lines.{lines_of}
use Rattle.text_lines.specs.Readings.{read_lines}
use Rattle.setup_text.specs.Moments.{added, items_of, placed}
use Rattle.setup_text.specs.declared.text_error.TextKind.{TextKind}
use Rattle.setup_text.specs.declared.text_error.TextKind.TheVariants.{TooLarge}
use Rattle.setup_text.specs.declared.text_error.Which.{Which}

first : {A : Type 0} (test : Bool) (x y : A) → test ≡ true → (if test then x else y) ≡ x
first true x y h = refl
first false x y h = cc

second : {A : Type 0} (test : Bool) (x y : A) → test ≡ false → (if test then x else y) ≡ y
second true x y h = cc
second false x y h = refl

-- a text that is too large, and one that isn't
pub when_large : {A : Type 0} (text : List ℕ) (x y : A) → 1048576 < length text
    → (if nat_lt 1048576 (length text) then x else y) ≡ x
when_large text x y h =
    let large : nat_lt 1048576 (length text) ≡ true = grind arith in
    first _ x y large

pub when_small : {A : Type 0} (text : List ℕ) (x y : A) → length text ≤ 1048576
    → (if nat_lt 1048576 (length text) then x else y) ≡ y
when_small text x y h =
    let small : nat_lt 1048576 (length text) ≡ false = grind arith in
    second _ x y small

pub items_of-large : {A : Type 0} (which : Which) (item_in : List A → List ℕ → Result A TextKind) (text : List ℕ)
    → 1048576 < length text
    → items_of which item_in text ≡ Err (record { which = which; line = 0; kind = TooLarge })
items_of-large which item_in text h = when_large text _ _ h

pub items_of-read : {A : Type 0} (which : Which) (item_in : List A → List ℕ → Result A TextKind) (text : List ℕ)
    (read : Result (List A) (ℕ × TextKind))
    → length text ≤ 1048576 → read_lines (added item_in) 1 [] (lines_of text) ≡ read
    → items_of which item_in text ≡ placed which read
items_of-read which item_in text read h e = when_small text _ _ h ∙ ap (placed which) e
