-- The moments of a text, in milliseconds.
use Rattle.std.specs.Prelude.{ℕ, ◌-◌, List, [], ◌∷◌, ◌++◌, length, slice_get, nat_lt, if◌then◌else◌}
use Rattle.std.specs.Prelude.{Option, None, Some, Result, Ok, Err}
use Rattle.std.specs.Option.{unwrap_or}
use Rattle.text_lines.specs.Lines.{lines_of}
use Rattle.text_lines.specs.Numbers.{number_of}
use Rattle.text_lines.specs.Readings.{read_lines}
use Rattle.text_lines.specs.Words.{is_plain, words_of}
use Rattle.setup_text.specs.declared.text_error.TextError.{TextError}
use Rattle.setup_text.specs.declared.text_error.TextKind.{TextKind}
use Rattle.setup_text.specs.declared.text_error.TextKind.TheVariants.{BadLine, BadNumber}
use Rattle.setup_text.specs.declared.text_error.TextKind.TheVariants.{NotAscending, TooLarge}
use Rattle.setup_text.specs.declared.text_error.Which.{Which}
use Rattle.setup_text.specs.declared.text_error.Which.TheVariants.{Ticks}

-- the items that were read and one more, or why there is none
abbrev pub with_one : {A : Type 0} → List A → Result A TextKind → Result (List A) TextKind
with_one items (Ok item) = Ok (items ++ item ∷ [])
with_one items (Err fault) = Err fault

-- a line adds an item to those before it
abbrev pub added :
    {A : Type 0} → (List A → List ℕ → Result A TextKind) → List A → List ℕ
    → Result (List A) TextKind
added item_in items line = with_one items (item_in items line)

-- what the lines of a text say, or its first fault with its line
abbrev pub placed : {A : Type 0} → Which → Result A (ℕ × TextKind) → Result A TextError
placed which (Ok value) = Ok value
placed which (Err fault) = Err (record { which = which; line = fault.0; kind = fault.1 })

-- the items of a text, which its lines add one by one
abbrev pub items_of :
    {A : Type 0} → Which → (List A → List ℕ → Result A TextKind) → List ℕ
    → Result (List A) TextError
items_of which item_in text =
    if nat_lt 1048576 (length text) then Err (record { which = which; line = 0; kind = TooLarge })
    else placed which (read_lines (added item_in) 1 [] (lines_of text))

-- the last of some moments; 0 if there is none
abbrev pub latest : List ℕ → ℕ
latest moments = unwrap_or (slice_get moments (length moments - 1)) 0

-- the word of a line that has only one
abbrev pub only_of : List (List ℕ) → Option (List ℕ)
only_of [] = None
only_of (word ∷ []) = Some word
only_of (word ∷ second ∷ more) = None

abbrev pub moment_from : ℕ → Option ℕ → Result ℕ TextKind
moment_from before None = Err BadNumber
moment_from before (Some moment) = if nat_lt moment before then Err NotAscending else Ok moment

abbrev pub moment_of : ℕ → Option (List ℕ) → Result ℕ TextKind
moment_of before None = Err BadLine
moment_of before (Some word) = moment_from before (number_of word)

-- the moment of a line, which has one word, given the moment before
unfoldable pub moment_in : ℕ → List ℕ → Result ℕ TextKind
moment_in before line =
    if is_plain line then moment_of before (only_of (words_of line)) else Err BadLine

-- the moments of a text, or its first fault
unfoldable pub moments_of : List ℕ → Result (List ℕ) TextError
moments_of text = items_of Ticks (λ moments line. moment_in (latest moments) line) text
