-- What the lines of a reader's text say, one after another.
use Rattle.std.specs.Prelude.{ℕ, Bool, true, false, List, [], ◌∷◌, ◌++◌, if◌then◌else◌, Option}
use Rattle.std.specs.Prelude.{None, Some, Result, Ok, Err}
use Rattle.text_lines.specs.Words.{is_plain, words_of}
use Rattle.reader_pace.specs.ReaderWords.{word_named}
use Rattle.reader_pace.specs.Values.{all_phases, beginning_in, blocks_in, made, more_in, pause_in}
use Rattle.reader_pace.specs.Values.{phase_in, poll_in, stall_in}
use Rattle.reader_pace.specs.declared.drafts.Bounds.{Bounds}
use Rattle.reader_pace.specs.declared.drafts.ReaderDraft.{ReaderDraft}
use Rattle.reader_pace.specs.declared.paces.Pace.{Pace}
use Rattle.reader_pace.specs.declared.paces.Phases.{Phases}
use Rattle.reader_pace.specs.declared.reader_error.ReaderKind.{ReaderKind}
use Rattle.reader_pace.specs.declared.reader_error.ReaderKind.TheVariants.{BadLine, Twice}
use Rattle.reader_pace.specs.declared.reader_error.ReaderKind.TheVariants.{UnknownWord}
use Rattle.reader_pace.specs.declared.reader_words.ReaderWord.{ReaderWord}
use Rattle.reader_pace.specs.declared.reader_words.ReaderWord.TheVariants as word

-- no line said anything yet
abbrev pub nothing_said : ReaderDraft
nothing_said = record {
  pace = None;
  stalls = [];
  phases = None;
  beginnings = None;
  more = [];
  slots = false;
}

-- what is kept of what only one line may say: that another said it before is the fault
abbrev pub put_once : {A : Type 0} → Option A → Result A ReaderKind → Result (Option A) ReaderKind
put_once (Some before) value = Err Twice
put_once None value = made Some value

-- what only one line may set
abbrev pub set_once : Bool → Result Bool ReaderKind
set_once true = Err Twice
set_once false = Ok true

-- a word without a value
abbrev pub word_after : ReaderDraft → ReaderWord → Result ReaderDraft ReaderKind
word_after draft word.Slots = made (λ set. record draft { slots = set }) (set_once draft.slots)
word_after draft word = Err BadLine

-- one of the three words that say the pace, of which there is one line
abbrev pub pace_after : ReaderDraft → Result Pace ReaderKind → Result ReaderDraft ReaderKind
pace_after draft pace = made (λ pace. record draft { pace = pace }) (put_once draft.pace pace)

-- a word that says which phases are meant
abbrev pub phases_after : ReaderDraft → Result Phases ReaderKind → Result ReaderDraft ReaderKind
phases_after draft phases =
    made (λ phases. record draft { phases = phases }) (put_once draft.phases phases)

-- a word with one value
abbrev pub value_after : ℕ → ReaderDraft → ReaderWord → List ℕ → Result ReaderDraft ReaderKind
value_after tov draft word.Pause value = pace_after draft (pause_in value)
value_after tov draft word.Poll value = pace_after draft (poll_in value)
value_after tov draft word.Blocks value = pace_after draft (blocks_in value)
value_after tov draft word.Phase value = phases_after draft (phase_in tov value)
value_after tov draft word.Phases value = phases_after draft (all_phases value)
value_after tov draft word.From value =
    made (λ from. record draft { beginnings = from })
    (put_once draft.beginnings (beginning_in value))
value_after tov draft word value = Err BadLine

-- one more stall
abbrev pub stall_after : ReaderDraft → List ℕ → List ℕ → Result ReaderDraft ReaderKind
stall_after draft from long =
    made (λ stall. record draft { stalls = draft.stalls ++ stall ∷ [] }) (stall_in from long)

-- one more file of a CPU
abbrev pub more_after : ℕ → ReaderDraft → List ℕ → List ℕ → Result ReaderDraft ReaderKind
more_after cpus draft cpu file =
    made (λ more. record draft { more = draft.more ++ more ∷ [] }) (more_in cpus cpu file)

-- a word with two values
abbrev pub pair_after : ℕ → ReaderDraft → ReaderWord → List ℕ → List ℕ
    → Result ReaderDraft ReaderKind
pair_after cpus draft word.Stall value second = stall_after draft value second
pair_after cpus draft word.More value second = more_after cpus draft value second
pair_after cpus draft word value second = Err BadLine

-- a word and its values
unfoldable pub values_after :
    Bounds → ReaderDraft → ReaderWord → List (List ℕ) → Result ReaderDraft ReaderKind
values_after bounds draft word [] = word_after draft word
values_after bounds draft word (value ∷ []) = value_after bounds.tov draft word value
values_after bounds draft word (value ∷ second ∷ []) =
    pair_after bounds.cpus draft word value second
values_after bounds draft word (value ∷ second ∷ third ∷ more) = Err BadLine

abbrev pub named_after :
    Bounds → ReaderDraft → Option ReaderWord → List (List ℕ) → Result ReaderDraft ReaderKind
named_after bounds draft None values = Err UnknownWord
named_after bounds draft (Some word) values = values_after bounds draft word values

-- the words of a line; one without a word changes nothing
abbrev pub words_after : Bounds → ReaderDraft → List (List ℕ) → Result ReaderDraft ReaderKind
words_after bounds draft [] = Ok draft
words_after bounds draft (first ∷ values) = named_after bounds draft (word_named first) values

-- what is said after a line, or the first fault of the line
unfoldable pub line_after : Bounds → ReaderDraft → List ℕ → Result ReaderDraft ReaderKind
line_after bounds draft line =
    if is_plain line then words_after bounds draft (words_of line) else Err BadLine
