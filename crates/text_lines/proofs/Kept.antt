-- What each line of a text keeps, and how many lines there are.
use Rattle.std.proofs.Common.{◌≡◌, ℕ, ◌+◌, ◌≤◌, Bool, true, false, List, [], ◌∷◌, length, refl, ap, subst, arith, Ok, Err}
use Rattle.std.specs.Prelude.{Result, ◌&&◌, ◌==◌, if◌then◌else◌}
use Rattle.std.specs.List.{onto_first}
use Rattle.text_lines.specs.Lines.{lines_of, starts_with_line_feed}
use Rattle.text_lines.specs.Readings.{and_then, read_lines}
use Rattle.text_lines.specs.Words.{is_passed_over, words_of}

ok_value : {S F : Type 0} (state last : S) → ◌≡◌ {A = Result S F} (Ok state) (Ok last) → state ≡ last
ok_value state last h = cc

chosen_keeps : {S K : Type 0} (Q : Type 0) (over : Bool) (number : ℕ) (given : Result S K) (more : S → Result S (ℕ × K))
    (left : Result S (ℕ × K)) (last : S)
    → (left ≡ Ok last → Q) → ((next : S) → given ≡ Ok next → more next ≡ Ok last → Q)
    → (if over then left else and_then number given more) ≡ Ok last → Q
chosen_keeps Q true number given more left last l g h = l h
chosen_keeps Q false number (Ok next) more left last l g h = g next refl h
chosen_keeps Q false number (Err fault) more left last l g h = cc

-- what holds at first and is kept by each line holds of all that is read
pub reads_keep : {S K : Type 0} (step : S → List ℕ → Result S K) (P : S → Type 0)
    → ((state : S) (line : List ℕ) (next : S) → step state line ≡ Ok next → P state → P next)
    → (number : ℕ) (state last : S) (lines : List (List ℕ)) → P state → read_lines step number state lines ≡ Ok last → P last
unfolding read_lines
reads_keep step P keep number state last [] p h = subst P (ok_value state last h) p
reads_keep step P keep number state last (line ∷ more) p h =
    chosen_keeps (P last) (is_passed_over (words_of line)) number (step state line)
    (λ next. read_lines step (number + 1) next more)
    (read_lines step (number + 1) state more) last
    (λ h. reads_keep step P keep (number + 1) state last more p h)
    (λ next e h. reads_keep step P keep (number + 1) next last more (keep state line next e p) h) h

-- a number that each line raises by at most one rises by at most the number of lines
pub reads_few : {S K : Type 0} (step : S → List ℕ → Result S K) (size : S → ℕ)
    → ((state : S) (line : List ℕ) (next : S) → step state line ≡ Ok next → size next ≤ size state + 1)
    → (number : ℕ) (state last : S) (lines : List (List ℕ)) → read_lines step number state lines ≡ Ok last
    → size last ≤ size state + length lines
unfolding read_lines
reads_few step size one number state last [] h = omega (arith, ap size (ok_value state last h))
reads_few step size one number state last (line ∷ more) h =
    chosen_keeps (size last ≤ size state + length (line ∷ more)) (is_passed_over (words_of line)) number (step state line)
    (λ next. read_lines step (number + 1) next more)
    (read_lines step (number + 1) state more) last
    (λ h. omega (arith, reads_few step size one (number + 1) state last more h))
    (λ next e h. omega (arith, reads_few step size one (number + 1) next last more h, one state line next e)) h

-- ---- a text has no more lines than bytes

onto_first-few : (b : ℕ) (lines : List (List ℕ)) → length (onto_first b lines) ≤ 1 + length lines
onto_first-few b [] = omega arith
onto_first-few b (line ∷ lines) = omega arith

cut_few : (feed return : Bool) (b : ℕ) (lines : List (List ℕ))
    → length (if feed then [] ∷ lines else if return then lines else onto_first b lines) ≤ 1 + length lines
cut_few true return b lines = omega arith
cut_few false true b lines = omega arith
cut_few false false b lines = onto_first-few b lines

pub lines_of-few : (text : List ℕ) → length (lines_of text) ≤ length text
unfolding lines_of
lines_of-few [] = omega arith
lines_of-few (b ∷ bytes) =
    omega (arith, cut_few (b == 10) ((b == 13) && starts_with_line_feed bytes) b (lines_of bytes), lines_of-few bytes)
