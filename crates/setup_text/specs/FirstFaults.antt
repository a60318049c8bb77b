-- Where the first fault of a text is, stated without reading it step by step.
use Rattle.std.specs.Prelude.{◌≡◌, ℕ, false, List, ◌∷◌, ◌++◌, length, Result, Ok, Err}
use Rattle.text_lines.specs.Readings.{read_lines}
use Rattle.text_lines.specs.Words.{is_passed_over, words_of}

-- no line has a fault: all of them lead from one state to another
abbrev pub HaveNoFault : {S K : Type 0} → (S → List ℕ → Result S K) → S → List (List ℕ) → Type 0
HaveNoFault {S = S} step start lines = (last : S) × (read_lines step 1 start lines ≡ Ok last)

-- the first lines have no fault, and the next one isn't skipped and has this fault
pub record HasFirstFault {S K : Type 0} (step : S → List ℕ → Result S K) (start : S)
    (lines : List (List ℕ)) (count : ℕ) (kind : K) : Type 0 where
  pub before : List (List ℕ)
  pub line : List ℕ
  pub after : List (List ℕ)
  pub state : S
  pub lines_are : lines ≡ before ++ line ∷ after
  pub place : length before ≡ count
  pub faultless : read_lines step 1 start before ≡ Ok state
  pub counts : is_passed_over (words_of line) ≡ false
  pub fault : step state line ≡ Err kind
