-- Which faults a listing has, and how many instructions.
use Rattle.std.proofs.Common.{◌≡◌, ℕ, ◌+◌, ◌≤◌, Bool, true, false, List, [], ◌∷◌, length, ap, sym, arith, Some, None, Ok, Err}
use Rattle.std.proofs.Common.{Option}
use Rattle.std.specs.Prelude.{Result, nat_lt, if◌then◌else◌}
use Rattle.bpf_filter.specs.Listings.{behind_count, count_of, instruction_of, instructions_from, instructions_of, is_count}
use Rattle.bpf_filter.specs.Listings.{program_in, with_line, without_blank_end}
use Rattle.bpf_filter.specs.declared.error.FilterError.{FilterError}
use Rattle.bpf_filter.specs.declared.error.FilterError.TheVariants.{BadLine, BadCount, TooLarge}
use Rattle.bpf_filter.specs.declared.insn.Insn.{Insn}
use Rattle.text_lines.specs.Lines.{lines_of}
use Rattle.text_lines.specs.Words.{words_of}
use Rattle.setup_text.proofs.ProgramFaults.{err_same}

-- the faults that a text can have
abbrev pub is_of_text : FilterError → Bool
is_of_text (BadLine line) = true
is_of_text BadCount = true
is_of_text TooLarge = true
is_of_text fault = false

line_fault : (number : ℕ) (insn : Option Insn) (more : Result (List Insn) FilterError) (fault : FilterError)
    → ((fault : FilterError) → more ≡ Err fault → is_of_text fault ≡ true)
    → with_line number insn more ≡ Err fault → is_of_text fault ≡ true
line_fault number None more fault m h = sym (ap is_of_text (err_same {A = List Insn} (BadLine number) fault h))
line_fault number (Some i) (Ok code) fault m h = cc
line_fault number (Some i) (Err error) fault m h = m fault h

lines_fault : (number : ℕ) (lines : List (List ℕ)) (fault : FilterError) → instructions_from number lines ≡ Err fault
    → is_of_text fault ≡ true
unfolding instructions_from
lines_fault number [] fault h = cc
lines_fault number (line ∷ more) fault h =
    line_fault number (instruction_of (words_of line)) (instructions_from (number + 1) more) fault
    (lines_fault (number + 1) more) h

count_fault : (right : Bool) (code : List Insn) (fault : FilterError)
    → (if right then Ok code else Err BadCount) ≡ Err fault → is_of_text fault ≡ true
count_fault true code fault h = cc
count_fault false code fault h = sym (ap is_of_text (err_same {A = List Insn} BadCount fault h))

behind_fault : (count : Option ℕ) (more : Result (List Insn) FilterError) (fault : FilterError)
    → ((fault : FilterError) → more ≡ Err fault → is_of_text fault ≡ true)
    → behind_count count more ≡ Err fault → is_of_text fault ≡ true
behind_fault None more fault m h = sym (ap is_of_text (err_same {A = List Insn} (BadLine 1) fault h))
behind_fault (Some count) (Err error) fault m h = m fault h
behind_fault (Some count) (Ok code) fault m h = count_fault (is_count count (length code)) code fault h

listing_fault : (lines : List (List ℕ)) (fault : FilterError) → program_in lines ≡ Err fault → is_of_text fault ≡ true
listing_fault [] fault h = sym (ap is_of_text (err_same {A = List Insn} BadCount fault h))
listing_fault (first ∷ more) fault h =
    behind_fault (count_of (words_of first)) (instructions_from 2 more) fault (lines_fault 2 more) h

text_fault : (large : Bool) (lines : List (List ℕ)) (fault : FilterError)
    → (if large then Err TooLarge else program_in lines) ≡ Err fault → is_of_text fault ≡ true
text_fault true lines fault h = sym (ap is_of_text (err_same {A = List Insn} TooLarge fault h))
text_fault false lines fault h = listing_fault lines fault h

pub instructions_of-fault : (text : List ℕ) (fault : FilterError) → instructions_of text ≡ Err fault → is_of_text fault ≡ true
unfolding instructions_of
instructions_of-fault text fault h = text_fault (nat_lt 1048576 (length text)) (without_blank_end (lines_of text)) fault h

-- the instructions of a text are few
few : (count : ℕ) (code given : List Insn) → (if is_count count (length code) then Ok code else Err BadCount) ≡ Ok given
    → length given ≤ 4096
few count code given h = grind arith

behind_few : (count : Option ℕ) (more : Result (List Insn) FilterError) (given : List Insn) → behind_count count more ≡ Ok given
    → length given ≤ 4096
behind_few None more given h = cc
behind_few (Some count) (Err error) given h = cc
behind_few (Some count) (Ok code) given h = few count code given h

listing_few : (lines : List (List ℕ)) (given : List Insn) → program_in lines ≡ Ok given → length given ≤ 4096
listing_few [] given h = cc
listing_few (first ∷ more) given h = behind_few (count_of (words_of first)) (instructions_from 2 more) given h

text_few : (large : Bool) (lines : List (List ℕ)) (given : List Insn)
    → (if large then Err TooLarge else program_in lines) ≡ Ok given → length given ≤ 4096
text_few true lines given h = cc
text_few false lines given h = listing_few lines given h

pub instructions_of-few : (text : List ℕ) (given : List Insn) → instructions_of text ≡ Ok given → length given ≤ 4096
unfolding instructions_of
instructions_of-few text given h = text_few (nat_lt 1048576 (length text)) (without_blank_end (lines_of text)) given h
