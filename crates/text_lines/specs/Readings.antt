-- How a text with comments is read, line by line.
use Rattle.std.specs.Prelude.{ℕ, ◌+◌, List, [], ◌∷◌, if◌then◌else◌, Result, Ok, Err}
use Rattle.text_lines.specs.Words.{is_passed_over, words_of}

-- what the line with this number gives, and then the lines after it: a fault is reported with its
-- line
abbrev pub and_then : {S K : Type 0} → ℕ → Result S K → (S → Result S (ℕ × K)) → Result S (ℕ × K)
and_then number (Ok state) more = more state
and_then number (Err kind) more = Err (number, kind)

-- Reads lines in order, the first of which has this number: each leads from what was read so far to
-- what is read after it, or to a fault. A line that is skipped changes nothing, whatever its bytes
-- are, but counts. The answer is the first fault, if there is one.
unfoldable pub read_lines :
    {S K : Type 0} → (S → List ℕ → Result S K) → ℕ → S → List (List ℕ) → Result S (ℕ × K)
read_lines step number state [] = Ok state
read_lines step number state (line ∷ more) =
    if is_passed_over (words_of line) then read_lines step (number + 1) state more
    else and_then number (step state line) (λ next. read_lines step (number + 1) next more)
