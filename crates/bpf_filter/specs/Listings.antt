-- The text of `tcpdump -ddd`: a line with the number of instructions, then a line for each
-- instruction.
use Rattle.std.specs.Prelude.{ℕ, ◌+◌, Bool, true, false, ◌&&◌, List, [], ◌∷◌, length, nat_lt}
use Rattle.std.specs.Prelude.{nat_le, ◌==◌, if◌then◌else◌, Option, None, Some, Result, Ok, Err}
use Rattle.std.specs.List.{list_all}
use Rattle.std.specs.Option.{option_and_then}
use Rattle.text_lines.specs.Lines.{lines_of}
use Rattle.text_lines.specs.Words.{words_of}
use Rattle.text_lines.specs.Numbers.{number_of}
use Rattle.bpf_filter.specs.declared.insn.Insn.{Insn}
use Rattle.bpf_filter.specs.declared.error.FilterError.{FilterError}
use Rattle.bpf_filter.specs.declared.error.FilterError.TheVariants.{BadLine, BadCount, TooLarge}

infixl 10 ◌>>=◌
abbrev pub ◌>>=◌ : {A B : Type 0} → Option A → (A → Option B) → Option B
o >>= f = option_and_then f o

-- the number that a word spells, if it is at most this large
unfoldable pub number_to : ℕ → List ℕ → Option ℕ
number_to most word = do
  number ← number_of word
  if nat_le number most then Some number else None

-- the instruction that four words spell
unfoldable pub fields_of : List ℕ → List ℕ → List ℕ → List ℕ → Option Insn
fields_of code jt jf k = do
  c ← number_to 65535 code
  t ← number_to 255 jt
  f ← number_to 255 jf
  n ← number_of k
  Some (record { code = c; jt = t; jf = f; k = n })

-- a line of an instruction has four words: code, jt, jf and k
abbrev pub instruction_of : List (List ℕ) → Option Insn
instruction_of [] = None
instruction_of (a ∷ []) = None
instruction_of (a ∷ b ∷ []) = None
instruction_of (a ∷ b ∷ c ∷ []) = None
instruction_of (code ∷ jt ∷ jf ∷ k ∷ []) = fields_of code jt jf k
instruction_of (a ∷ b ∷ c ∷ d ∷ e ∷ more) = None

-- the line of the count has one word
abbrev pub count_of : List (List ℕ) → Option ℕ
count_of [] = None
count_of (word ∷ []) = number_of word
count_of (a ∷ b ∷ more) = None

-- whether no line has a word
abbrev pub has_no_word : List (List ℕ) → Bool
has_no_word [] = true
has_no_word (word ∷ more) = false

abbrev pub are_blank : List (List ℕ) → Bool
are_blank lines = list_all (λ line. has_no_word (words_of line)) lines

-- the lines up to the last one that has a word
unfoldable pub without_blank_end : List (List ℕ) → List (List ℕ)
without_blank_end [] = []
without_blank_end (line ∷ more) =
    if are_blank (line ∷ more) then [] else line ∷ without_blank_end more

-- what the line with this number gives, with what the lines after it give
abbrev pub with_line :
    ℕ → Option Insn → Result (List Insn) FilterError → Result (List Insn) FilterError
with_line number None more = Err (BadLine number)
with_line number (Some i) (Ok code) = Ok (i ∷ code)
with_line number (Some i) (Err error) = Err error

-- the instructions of lines, the first of which has this number
unfoldable pub instructions_from : ℕ → List (List ℕ) → Result (List Insn) FilterError
instructions_from number [] = Ok []
instructions_from number (line ∷ more) =
    with_line number (instruction_of (words_of line)) (instructions_from (number + 1) more)

-- a count is from 1 to 4096, and is the number of instructions
abbrev pub is_count : ℕ → ℕ → Bool
is_count count instructions = nat_le 1 count && nat_le count 4096 && (count == instructions)

-- what the count of the first line gives, with what the lines after it give
abbrev pub behind_count : Option ℕ → Result (List Insn) FilterError → Result (List Insn) FilterError
behind_count None more = Err (BadLine 1)
behind_count (Some count) (Err error) = Err error
behind_count (Some count) (Ok code) = if is_count count (length code) then Ok code else Err BadCount

abbrev pub program_in : List (List ℕ) → Result (List Insn) FilterError
program_in [] = Err BadCount
program_in (first ∷ more) = behind_count (count_of (words_of first)) (instructions_from 2 more)

-- the instructions of a text, or its first fault
unfoldable pub instructions_of : List ℕ → Result (List Insn) FilterError
instructions_of text =
    if nat_lt 1048576 (length text) then Err TooLarge
    else program_in (without_blank_end (lines_of text))
