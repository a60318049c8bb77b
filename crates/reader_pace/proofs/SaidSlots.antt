-- A reader that is accepted has rings of slots exactly where its text says so.
use Rattle.std.proofs.Common.{◌≡◌, ℕ, ◌+◌, Bool, true, false, List, [], ◌∷◌, ◌++◌, refl, sym, ap, ◌∙◌, subst}
use Rattle.std.proofs.Common.{Some, None, Option, Ok, Err}
use Rattle.std.specs.Prelude.{Result, ◌||◌, ◌==◌, if◌then◌else◌}
use Rattle.std.proofs.lemmas.Bool.{eqb-true}
use Rattle.text_lines.specs.Lines.{lines_of}
use Rattle.text_lines.specs.Readings.{and_then, read_lines}
use Rattle.text_lines.specs.Words.{is_passed_over, is_plain, words_of}
use Rattle.setup_text.proofs.PassedTests.{ok_same}
use Rattle.reader_pace.specs.Drafts.{line_after, more_after, named_after, nothing_said, pace_after, pair_after}
use Rattle.reader_pace.specs.Drafts.{set_once, stall_after, value_after, values_after, word_after, words_after}
use Rattle.reader_pace.specs.Drafts as drafts
use Rattle.reader_pace.specs.ReaderWords.{begins_with_slots, is_slots, some_begin_with_slots, word_named}
use Rattle.reader_pace.specs.Readers.{at_line, beginnings_after, draft_of, phases_after, reader_after, reader_from, with_pace}
use Rattle.reader_pace.specs.Values.{all_phases, beginning_in, blocks_in, more_in, pause_in, phase_in, poll_in, stall_in}
use Rattle.reader_pace.specs.declared.drafts.Bounds.{Bounds}
use Rattle.reader_pace.specs.declared.drafts.ReaderDraft.{ReaderDraft}
use Rattle.reader_pace.specs.declared.paces.Beginnings.{Beginnings}
use Rattle.reader_pace.specs.declared.paces.Pace.{Pace}
use Rattle.reader_pace.specs.declared.paces.Phases.{Phases}
use Rattle.reader_pace.specs.declared.reader_error.ReaderKind.{ReaderKind}
use Rattle.reader_pace.specs.declared.reader_error.ReaderKind.TheVariants.{BadLine}
use Rattle.reader_pace.specs.declared.reader_words.ReaderWord.{ReaderWord}
use Rattle.reader_pace.specs.declared.reader_words.ReaderWord.TheVariants as word
use Rattle.reader_pace.specs.declared.readers.PacedReader.{PacedReader}
use Rattle.reader_pace.proofs.Accepted.{line_ok}
use Rattle.reader_pace.proofs.DraftLines.{made_keeps, once_keeps}

-- ---- a line

set_true : (before set : Bool) → set_once before ≡ Ok set → set ≡ true
set_true true set h = cc
set_true false set h = sym (ok_same true set h)

word_slots : (draft next : ReaderDraft) (said : ReaderWord) → word_after draft said ≡ Ok next
    → next.slots ≡ (is_slots (Some said) || draft.slots)
word_slots draft next word.Slots h =
    made_keeps (λ set. record draft { slots = set }) (set_once draft.slots) next (λ next. next.slots ≡ true)
    (set_true draft.slots) h
word_slots draft next said h = cc

pace_slots : (draft next : ReaderDraft) (given : Result Pace ReaderKind) → pace_after draft given ≡ Ok next
    → next.slots ≡ draft.slots
pace_slots draft next given h =
    once_keeps (λ paced. record draft { pace = paced }) draft.pace given next (λ next. next.slots ≡ draft.slots)
    (λ paced e. refl) h

phases_slots : (draft next : ReaderDraft) (given : Result Phases ReaderKind)
    → drafts.phases_after draft given ≡ Ok next → next.slots ≡ draft.slots
phases_slots draft next given h =
    once_keeps (λ said. record draft { phases = said }) draft.phases given next (λ next. next.slots ≡ draft.slots)
    (λ said e. refl) h

value_slots : (tov : ℕ) (draft next : ReaderDraft) (said : ReaderWord) (value : List ℕ)
    → value_after tov draft said value ≡ Ok next → next.slots ≡ (is_slots (Some said) || draft.slots)
value_slots tov draft next word.Pause value h = pace_slots draft next (pause_in value) h
value_slots tov draft next word.Poll value h = pace_slots draft next (poll_in value) h
value_slots tov draft next word.Blocks value h = pace_slots draft next (blocks_in value) h
value_slots tov draft next word.Phase value h = phases_slots draft next (phase_in tov value) h
value_slots tov draft next word.Phases value h = phases_slots draft next (all_phases value) h
value_slots tov draft next word.From value h =
    once_keeps (λ from. record draft { beginnings = from }) draft.beginnings (beginning_in value) next
    (λ next. next.slots ≡ draft.slots) (λ from e. refl) h
value_slots tov draft next said value h = cc

pair_slots : (cpus : ℕ) (draft next : ReaderDraft) (said : ReaderWord) (value second : List ℕ)
    → pair_after cpus draft said value second ≡ Ok next → next.slots ≡ (is_slots (Some said) || draft.slots)
pair_slots cpus draft next word.Stall value second h =
    made_keeps (λ stall. record draft { stalls = draft.stalls ++ stall ∷ [] }) (stall_in value second) next
    (λ next. next.slots ≡ draft.slots) (λ stall e. refl) h
pair_slots cpus draft next word.More value second h =
    made_keeps (λ more. record draft { more = draft.more ++ more ∷ [] }) (more_in cpus value second) next
    (λ next. next.slots ≡ draft.slots) (λ more e. refl) h
pair_slots cpus draft next said value second h = cc

values_slots : (bounds : Bounds) (draft next : ReaderDraft) (said : ReaderWord) (values : List (List ℕ))
    → values_after bounds draft said values ≡ Ok next → next.slots ≡ (is_slots (Some said) || draft.slots)
unfolding values_after
values_slots bounds draft next said [] h = word_slots draft next said h
values_slots bounds draft next said (value ∷ []) h = value_slots bounds.tov draft next said value h
values_slots bounds draft next said (value ∷ second ∷ []) h =
    pair_slots bounds.cpus draft next said value second h
values_slots bounds draft next said (value ∷ second ∷ third ∷ more) h = cc

named_slots : (bounds : Bounds) (draft next : ReaderDraft) (said : Option ReaderWord) (values : List (List ℕ))
    → named_after bounds draft said values ≡ Ok next → next.slots ≡ (is_slots said || draft.slots)
named_slots bounds draft next None values h = cc
named_slots bounds draft next (Some said) values h = values_slots bounds draft next said values h

words_slots : (bounds : Bounds) (draft next : ReaderDraft) (words : List (List ℕ))
    → words_after bounds draft words ≡ Ok next → next.slots ≡ (begins_with_slots words || draft.slots)
words_slots bounds draft next [] h = ap (λ (d : ReaderDraft). d.slots) (sym (ok_same draft next h))
words_slots bounds draft next (first ∷ values) h = named_slots bounds draft next (word_named first) values h

line_slots : (bounds : Bounds) (draft next : ReaderDraft) (line : List ℕ) → line_after bounds draft line ≡ Ok next
    → next.slots ≡ (begins_with_slots (words_of line) || draft.slots)
unfolding line_after
line_slots bounds draft next line h = by (is_plain line) h where
  by : (plain : Bool) → (if plain then words_after bounds draft (words_of line) else Err BadLine) ≡ Ok next
      → next.slots ≡ (begins_with_slots (words_of line) || draft.slots)
  by true h = words_slots bounds draft next (words_of line) h
  by false h = cc

-- a line that is skipped doesn't begin with the word
comment_named : (bytes : List ℕ) → word_named (35 ∷ bytes) ≡ None
unfolding word_named
comment_named bytes = refl

skipped_slots : (words : List (List ℕ)) → is_passed_over words ≡ true → begins_with_slots words ≡ false
skipped_slots [] h = refl
skipped_slots ([] ∷ values) h = cc
skipped_slots ((b ∷ bytes) ∷ values) h =
    ap (λ (n : ℕ). is_slots (word_named (n ∷ bytes))) (eqb-true b 35 h) ∙ ap is_slots (comment_named bytes)

-- ---- all lines

one_says : (here rest before : Bool) → (rest || (here || before)) ≡ ((here || rest) || before)
one_says true true before = refl
one_says true false before = refl
one_says false rest before = refl

-- a line and those after it
line_then : (bounds : Bounds) (number : ℕ) (draft last : ReaderDraft) (line : List ℕ) (lines : List (List ℕ))
    → ((next : ReaderDraft) → read_lines (line_after bounds) (number + 1) next lines ≡ Ok last
    → last.slots ≡ (some_begin_with_slots lines || next.slots))
    → (over : Bool) (given : Result ReaderDraft ReaderKind) → is_passed_over (words_of line) ≡ over
    → line_after bounds draft line ≡ given
    → (if over then read_lines (line_after bounds) (number + 1) draft lines
    else and_then number given (λ next. read_lines (line_after bounds) (number + 1) next lines)) ≡ Ok last
    → last.slots ≡ ((begins_with_slots (words_of line) || some_begin_with_slots lines) || draft.slots)
line_then bounds number draft last line lines rest true given skipped is h =
    rest draft h
    ∙ ap (λ b. (b || some_begin_with_slots lines) || draft.slots) (sym (skipped_slots (words_of line) skipped))
line_then bounds number draft last line lines rest false (Ok next) skipped is h =
    rest next h ∙ ap (λ b. some_begin_with_slots lines || b) (line_slots bounds draft next line is)
    ∙ one_says (begins_with_slots (words_of line)) (some_begin_with_slots lines) draft.slots
line_then bounds number draft last line lines rest false (Err fault) skipped is h = cc

lines_slots : (bounds : Bounds) (number : ℕ) (draft last : ReaderDraft) (lines : List (List ℕ))
    → read_lines (line_after bounds) number draft lines ≡ Ok last
    → last.slots ≡ (some_begin_with_slots lines || draft.slots)
unfolding read_lines
lines_slots bounds number draft last [] h = ap (λ (d : ReaderDraft). d.slots) (sym (same draft last h)) where
  same : (one other : ReaderDraft) → ◌≡◌ {A = Result ReaderDraft (ℕ × ReaderKind)} (Ok one) (Ok other) → one ≡ other
  same one other e = cc
lines_slots bounds number draft last (line ∷ lines) h =
    line_then bounds number draft last line lines
    (λ next. lines_slots bounds (number + 1) next last lines) (is_passed_over (words_of line))
    (line_after bounds draft line) refl refl h

-- ---- the reader

from_slots : (draft : ReaderDraft) (paced : Pace) (phases : Result Phases ReaderKind)
    (beginnings : Result Beginnings ReaderKind) (reader : PacedReader)
    → reader_from draft paced phases beginnings ≡ Ok reader → reader.slots ≡ draft.slots
from_slots draft paced (Ok phases) (Ok beginnings) reader h = sym (ap (λ (r : PacedReader). r.slots) (ok_same _ reader h))
from_slots draft paced (Ok phases) (Err fault) reader h = cc
from_slots draft paced (Err fault) beginnings reader h = cc

paced_slots : (draft : ReaderDraft) (said : Option Pace) (reader : PacedReader) → with_pace draft said ≡ Ok reader
    → reader.slots ≡ draft.slots
paced_slots draft None reader h = cc
paced_slots draft (Some paced) reader h =
    from_slots draft paced (phases_after draft.slots draft.phases) (beginnings_after paced draft.beginnings) reader h

none_before : (said : Bool) → (said || false) ≡ said
none_before true = refl
none_before false = refl

pub reader_says : (bounds : Bounds) (text : List ℕ) (draft : ReaderDraft) (reader : PacedReader)
    → draft_of bounds text ≡ Ok draft → reader_after draft ≡ Ok reader
    → reader.slots ≡ some_begin_with_slots (lines_of text)
unfolding draft_of reader_after
reader_says bounds text draft reader d h =
    paced_slots draft draft.pace reader h
    ∙ lines_slots bounds 1 nothing_said draft (lines_of text)
    (line_ok (read_lines (line_after bounds) 1 nothing_said (lines_of text)) draft d)
    ∙ none_before (some_begin_with_slots (lines_of text))
