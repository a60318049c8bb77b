-- The words with which a line of a reader's text begins.
use Rattle.std.specs.Prelude.{ℕ, Bool, true, false, ◌||◌, List, [], ◌∷◌, codes, bytes_eq, length}
use Rattle.std.specs.Prelude.{nat_lt, if◌then◌else◌, Option, None, Some}
use Rattle.text_lines.specs.Lines.{lines_of}
use Rattle.text_lines.specs.Words.{words_of}
use Rattle.reader_pace.specs.declared.reader_words.ReaderWord.{ReaderWord}
use Rattle.reader_pace.specs.declared.reader_words.ReaderWord.TheVariants as word

-- the word with this spelling
unfoldable pub word_named : List ℕ → Option ReaderWord
word_named name =
    if bytes_eq name (codes "pause") then Some word.Pause
    else if bytes_eq name (codes "poll") then Some word.Poll
    else if bytes_eq name (codes "blocks") then Some word.Blocks
    else if bytes_eq name (codes "stall") then Some word.Stall
    else if bytes_eq name (codes "phase") then Some word.Phase
    else if bytes_eq name (codes "phases") then Some word.Phases
    else if bytes_eq name (codes "from") then Some word.From
    else if bytes_eq name (codes "more") then Some word.More
    else if bytes_eq name (codes "slots") then Some word.Slots
    else None

-- ---- what the rings are made of, which the text says before anything of it is accepted

abbrev pub is_slots : Option ReaderWord → Bool
is_slots (Some word.Slots) = true
is_slots named = false

-- whether the first of a line's words is `slots`
abbrev pub begins_with_slots : List (List ℕ) → Bool
begins_with_slots [] = false
begins_with_slots (first ∷ values) = is_slots (word_named first)

-- whether that of one of these lines is
abbrev pub some_begin_with_slots : List (List ℕ) → Bool
some_begin_with_slots [] = false
some_begin_with_slots (line ∷ lines) =
    begins_with_slots (words_of line) || some_begin_with_slots lines

-- whether a text says that the rings are of slots: a line of it begins with that word, and it isn't
-- too large
unfoldable pub says_slots : List ℕ → Bool
says_slots text =
    if nat_lt 1048576 (length text) then false else some_begin_with_slots (lines_of text)
