-- What a loop over the lines of a listing has read.
use Rattle.std.proofs.Common.{◌≡◌, ℕ, ◌+◌, ◌<◌, ◌≤◌, Bool, true, false, List, [], ◌∷◌, ◌++◌, length, refl, ap, sym, ◌∙◌, subst}
use Rattle.std.proofs.Common.{arith, Some, None, Ok, Err}
use Rattle.std.specs.Prelude.{Result, ◌&&◌, nat_lt, if◌then◌else◌}
use Rattle.std.proofs.lemmas.List.{append_assoc, append-nil}
use Rattle.std.proofs.lemmas.Option.{none-some}
use Rattle.text_lines.specs.Lines.{lines_of}
use Rattle.text_lines.specs.Words.{words_of}
use Rattle.bpf_filter.specs.declared.insn.Insn.{Insn}
use Rattle.bpf_filter.specs.declared.error.FilterError.{FilterError}
use Rattle.bpf_filter.specs.declared.error.FilterError.TheVariants.{BadLine, BadCount, Memory, TooLarge}
use Rattle.bpf_filter.specs.Answers.{Refuses}
use Rattle.bpf_filter.specs.Listings.{are_blank, has_no_word, instruction_of, without_blank_end, with_line, instructions_from}
use Rattle.bpf_filter.specs.Listings.{behind_count, program_in, instructions_of, count_of, is_count}

-- ---- blank lines

-- whether lines have a word doesn't depend on a first line without one
pub blank-without_word : (lines : List (List ℕ)) (line : List ℕ) (more : List (List ℕ)) → lines ≡ line ∷ more
    → words_of line ≡ [] → are_blank lines ≡ are_blank more
blank-without_word lines line more h e = ap are_blank h ∙ ap (λ words. has_no_word words && are_blank more) e

pub not_blank-with_word : (lines : List (List ℕ)) (line : List ℕ) (more : List (List ℕ)) (word : List ℕ) (words : List (List ℕ))
    → lines ≡ line ∷ more → words_of line ≡ word ∷ words → are_blank lines ≡ false
not_blank-with_word lines line more word words h e = ap are_blank h ∙ ap (λ words. has_no_word words && are_blank more) e

-- ---- instructions

-- the lines with an instruction before them aren't at their end
instruction_has_word : (words : List (List ℕ)) (i : Insn) → instruction_of words ≡ Some i → has_no_word words ≡ false
instruction_has_word [] i h = absurd (none-some i h)
instruction_has_word (word ∷ words) i h = refl

-- lines that aren't all blank keep the first one
without_blank_end-kept : (line : List ℕ) (more : List (List ℕ)) → are_blank (line ∷ more) ≡ false
    → without_blank_end (line ∷ more) ≡ line ∷ without_blank_end more
unfolding without_blank_end
without_blank_end-kept line more h = rw h refl

without_blank_end-blank : (lines : List (List ℕ)) → are_blank lines ≡ true → without_blank_end lines ≡ []
unfolding without_blank_end
without_blank_end-blank [] h = refl
without_blank_end-blank (line ∷ more) h = rw h refl

-- the instructions of the lines that are left
abbrev pub left_from : ℕ → List ℕ → Result (List Insn) FilterError
left_from number text = instructions_from number (without_blank_end (lines_of text))

kept_first : (number : ℕ) (text behind line : List ℕ) → lines_of text ≡ line ∷ lines_of behind
    → are_blank (lines_of text) ≡ false → left_from number text
    ≡ with_line number (instruction_of (words_of line)) (left_from (number + 1) behind)
unfolding instructions_from
kept_first number text behind line h b =
    ap (λ lines. instructions_from number (without_blank_end lines)) h
    ∙ ap (instructions_from number) (without_blank_end-kept line (lines_of behind) (ap are_blank (sym h) ∙ b))

pub left-instruction : (number : ℕ) (text behind line : List ℕ) (i : Insn) → lines_of text ≡ line ∷ lines_of behind
    → Some i ≡ instruction_of (words_of line) → left_from number text
    ≡ with_line number (Some i) (left_from (number + 1) behind)
left-instruction number text behind line i h e =
    kept_first number text behind line h
    (ap are_blank h ∙ ap (λ none. none && are_blank (lines_of behind)) (instruction_has_word (words_of line) i (sym e)))
    ∙ ap (λ insn. with_line number insn (left_from (number + 1) behind)) (sym e)

pub left-bad : (number : ℕ) (text behind line : List ℕ) → lines_of text ≡ line ∷ lines_of behind
    → None ≡ instruction_of (words_of line) → are_blank (lines_of text) ≡ false → left_from number text ≡ Err (BadLine number)
left-bad number text behind line h e b =
    kept_first number text behind line h b ∙ ap (λ insn. with_line number insn (left_from (number + 1) behind)) (sym e)

pub left-end : (number : ℕ) (text : List ℕ) → are_blank (lines_of text) ≡ true → left_from number text ≡ Ok []
unfolding instructions_from
left-end number text b = ap (instructions_from number) (without_blank_end-blank (lines_of text) b)

pub left-empty : (number : ℕ) (text : List ℕ) → lines_of text ≡ [] → left_from number text ≡ Ok []
left-empty number text h = left-end number text (ap are_blank h)

-- ---- the loop

-- instructions before what is read, if it is read
abbrev pub with_front : List Insn → Result (List Insn) FilterError → Result (List Insn) FilterError
with_front front (Ok code) = Ok (front ++ code)
with_front front (Err error) = Err error

with_front-nothing : (read : Result (List Insn) FilterError) → with_front [] read ≡ read
with_front-nothing (Ok code) = refl
with_front-nothing (Err error) = refl

with_front-before : (front : List Insn) (number : ℕ) (i : Insn) (read : Result (List Insn) FilterError)
    → with_front front (with_line number (Some i) read) ≡ with_front (front ++ (i ∷ [])) read
with_front-before front number i (Ok code) = ap Ok (sym (append_assoc front (i ∷ []) code))
with_front-before front number i (Err error) = refl

-- the instructions read so far, with those of the text that is left, are the text's
pub record Listed (text : List ℕ) (code : List Insn) (number : ℕ) (rest : List ℕ) : Type 0 where
  pub same : with_front code (left_from number rest) ≡ left_from 2 text
  pub small : number + length rest ≤ 2 + length text

pub listed_none : (text : List ℕ) → Listed text [] 2 text
listed_none text = record { same = with_front-nothing (left_from 2 text); small = omega arith }

pub listed_more : (text : List ℕ) (code : List Insn) (number : ℕ) (rest behind line : List ℕ) (i : Insn) (more : List Insn)
    → Listed text code number rest → lines_of rest ≡ line ∷ lines_of behind → length behind < length rest
    → Some i ≡ instruction_of (words_of line) → more ≡ code ++ (i ∷ []) → Listed text more (number + 1) behind
listed_more text code number rest behind line i more l h s e m = record {
  same =
      ap (λ code. with_front code (left_from (number + 1) behind)) m
      ∙ sym (with_front-before code number i (left_from (number + 1) behind))
      ∙ ap (with_front code) (sym (left-instruction number rest behind line i h e)) ∙ l.same;
  small = omega (arith, l.small);
}

pub listed_bad : (text : List ℕ) (code : List Insn) (number : ℕ) (rest behind line : List ℕ)
    → Listed text code number rest → lines_of rest ≡ line ∷ lines_of behind
    → None ≡ instruction_of (words_of line) → are_blank (lines_of rest) ≡ false → left_from 2 text ≡ Err (BadLine number)
listed_bad text code number rest behind line l h e b =
    sym l.same ∙ ap (with_front code) (left-bad number rest behind line h e b)

pub listed_all : (text : List ℕ) (code : List Insn) (number : ℕ) (rest : List ℕ) → Listed text code number rest
    → left_from number rest ≡ Ok [] → left_from 2 text ≡ Ok code
listed_all text code number rest l h = sym l.same ∙ ap (with_front code) h ∙ ap Ok (append-nil code)

-- ---- the whole text

pub instructions_of-large : (text : List ℕ) → 1048576 < length text → instructions_of text ≡ Err TooLarge
unfolding instructions_of
instructions_of-large text h =
    let large : nat_lt 1048576 (length text) ≡ true = grind arith in
    rw large refl

instructions_of-small : (text : List ℕ) → length text ≤ 1048576
    → instructions_of text ≡ program_in (without_blank_end (lines_of text))
unfolding instructions_of
instructions_of-small text h =
    let small : nat_lt 1048576 (length text) ≡ false = grind arith in
    rw small refl

pub instructions_of-blank : (text : List ℕ) → length text ≤ 1048576 → are_blank (lines_of text) ≡ true
    → instructions_of text ≡ Err BadCount
instructions_of-blank text h b = instructions_of-small text h ∙ ap program_in (without_blank_end-blank (lines_of text) b)

pub instructions_of-empty : (text : List ℕ) → length text ≤ 1048576 → lines_of text ≡ [] → instructions_of text ≡ Err BadCount
instructions_of-empty text h e = instructions_of-blank text h (ap are_blank e)

-- a text whose first line isn't at its end
instructions_of-first : (text rest first : List ℕ) → length text ≤ 1048576 → lines_of text ≡ first ∷ lines_of rest
    → are_blank (lines_of text) ≡ false → instructions_of text ≡ behind_count (count_of (words_of first)) (left_from 2 rest)
instructions_of-first text rest first h e b =
    instructions_of-small text h ∙ ap (λ lines. program_in (without_blank_end lines)) e
    ∙ ap program_in (without_blank_end-kept first (lines_of rest) (ap are_blank (sym e) ∙ b))

pub instructions_of-no_count : (text rest first : List ℕ) → length text ≤ 1048576 → lines_of text ≡ first ∷ lines_of rest
    → None ≡ count_of (words_of first) → are_blank (lines_of text) ≡ false → instructions_of text ≡ Err (BadLine 1)
instructions_of-no_count text rest first h e n b =
    instructions_of-first text rest first h e b ∙ ap (λ count. behind_count count (left_from 2 rest)) (sym n)

count_has_word : (words : List (List ℕ)) (count : ℕ) → count_of words ≡ Some count → has_no_word words ≡ false
count_has_word [] count h = absurd (none-some count h)
count_has_word (word ∷ words) count h = refl

instructions_of-count : (text rest first : List ℕ) (count : ℕ) → length text ≤ 1048576 → lines_of text ≡ first ∷ lines_of rest
    → Some count ≡ count_of (words_of first) → instructions_of text ≡ behind_count (Some count) (left_from 2 rest)
instructions_of-count text rest first count h e n =
    instructions_of-first text rest first h e
    (ap are_blank e ∙ ap (λ none. none && are_blank (lines_of rest)) (count_has_word (words_of first) count (sym n)))
    ∙ ap (λ count. behind_count count (left_from 2 rest)) (sym n)

refuses_counted : (error : FilterError) (count : ℕ) (read : Result (List Insn) FilterError) → Refuses error read
    → Refuses error (behind_count (Some count) read)
refuses_counted Memory count read h = tt
refuses_counted error count read h = ap (behind_count (Some count)) h

pub instructions_of-counted : (text rest first : List ℕ) (count : ℕ) (code : List Insn) (instructions : ℕ) (is : Bool)
    → length text ≤ 1048576
    → lines_of text ≡ first ∷ lines_of rest → Some count ≡ count_of (words_of first) → left_from 2 rest ≡ Ok code
    → instructions ≡ length code → is ≡ is_count count instructions
    → instructions_of text ≡ (if is then Ok code else Err BadCount)
instructions_of-counted text rest first count code instructions is h e n r l b =
    instructions_of-count text rest first count h e n ∙ ap (behind_count (Some count)) r
    ∙ ap (λ is. if is then Ok code else Err BadCount) (sym (b ∙ ap (is_count count) l))

pub instructions_of-refused : (text rest first : List ℕ) (count : ℕ) (error : FilterError) → length text ≤ 1048576
    → lines_of text ≡ first ∷ lines_of rest → Some count ≡ count_of (words_of first) → Refuses error (left_from 2 rest)
    → Refuses error (instructions_of text)
instructions_of-refused text rest first count error h e n r =
    subst (Refuses error) (sym (instructions_of-count text rest first count h e n))
    (refuses_counted error count (left_from 2 rest) r)
