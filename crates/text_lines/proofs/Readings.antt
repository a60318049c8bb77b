-- How a loop over the lines of a text proceeds.
use Rattle.std.proofs.Common.{◌≡◌, ℕ, ◌+◌, ◌<◌, ◌≤◌, Bool, true, false, List, [], ◌∷◌, length, refl, ap, ◌∙◌, arith, Ok, Err}
use Rattle.std.specs.Prelude.{Result, if◌then◌else◌}
use Rattle.text_lines.specs.Lines.{lines_of}
use Rattle.text_lines.specs.Readings.{and_then, read_lines}
use Rattle.text_lines.specs.Words.{is_passed_over, words_of}

first : {A : Type 0} (test : Bool) (x y : A) → test ≡ true → (if test then x else y) ≡ x
first true x y h = refl
first false x y h = cc

second : {A : Type 0} (test : Bool) (x y : A) → test ≡ false → (if test then x else y) ≡ y
second true x y h = cc
second false x y h = refl

-- What was read of a text so far, and what the rest says, together are what the text says. Every
-- line has its number.
pub record Reads {S K : Type 0} (step : S → List ℕ → Result S K) (start : S) (text : List ℕ) (state : S) (number : ℕ)
    (rest : List ℕ) : Type 0 where
  pub same : read_lines step 1 start (lines_of text) ≡ read_lines step number state (lines_of rest)
  pub small : number + length rest ≤ 1 + length text

pub reads_none : {S K : Type 0} (step : S → List ℕ → Result S K) (start : S) (text : List ℕ)
    → Reads step start text start 1 text
reads_none step start text = record { same = refl; small = omega arith }

pub reads_over : {S K : Type 0} (step : S → List ℕ → Result S K) (start : S) (text : List ℕ) (state : S) (number : ℕ)
    (rest behind line : List ℕ)
    → Reads step start text state number rest → lines_of rest ≡ line ∷ lines_of behind → length behind < length rest
    → is_passed_over (words_of line) ≡ true → Reads step start text state (number + 1) behind
unfolding read_lines
reads_over step start text state number rest behind line r h s p = record {
  same = r.same ∙ ap (read_lines step number state) h ∙ first _ _ _ p;
  small = omega (arith, r.small);
}

pub reads_more : {S K : Type 0} (step : S → List ℕ → Result S K) (start : S) (text : List ℕ) (state next : S) (number : ℕ)
    (rest behind line : List ℕ)
    → Reads step start text state number rest → lines_of rest ≡ line ∷ lines_of behind → length behind < length rest
    → is_passed_over (words_of line) ≡ false → step state line ≡ Ok next → Reads step start text next (number + 1) behind
unfolding read_lines
reads_more step start text state next number rest behind line r h s p e = record {
  same =
      r.same ∙ ap (read_lines step number state) h ∙ second _ _ _ p
      ∙ ap (λ given. and_then number given (λ next. read_lines step (number + 1) next (lines_of behind))) e;
  small = omega (arith, r.small);
}

pub reads_fault : {S K : Type 0} (step : S → List ℕ → Result S K) (start : S) (text : List ℕ) (state : S) (fault : K)
    (number : ℕ) (rest behind line : List ℕ)
    → Reads step start text state number rest → lines_of rest ≡ line ∷ lines_of behind
    → is_passed_over (words_of line) ≡ false → step state line ≡ Err fault
    → read_lines step 1 start (lines_of text) ≡ Err (number, fault)
unfolding read_lines
reads_fault step start text state fault number rest behind line r h p e =
    r.same ∙ ap (read_lines step number state) h ∙ second _ _ _ p
    ∙ ap (λ given. and_then number given (λ next. read_lines step (number + 1) next (lines_of behind))) e

pub reads_all : {S K : Type 0} (step : S → List ℕ → Result S K) (start : S) (text : List ℕ) (state : S) (number : ℕ)
    (rest : List ℕ)
    → Reads step start text state number rest → lines_of rest ≡ [] → read_lines step 1 start (lines_of text) ≡ Ok state
unfolding read_lines
reads_all step start text state number rest r h = r.same ∙ ap (read_lines step number state) h
