-- What holds of the lines of a reader's text, one after another.
use Rattle.std.proofs.Common.{◌≡◌, ℕ, ◌<◌, ◌≤◌, Bool, true, false, List, [], ◌∷◌, ◌++◌, length, refl}
use Rattle.std.proofs.Common.{subst, arith, Some, None, Option, Ok, Err}
use Rattle.std.specs.Prelude.{Result, All, IfSome, nat_le, nat_lt, if◌then◌else◌}
use Rattle.std.specs.List.{filter, slice_split}
use Rattle.std.proofs.lemmas.Bool.{leb-true, ltb-true}
use Rattle.std.proofs.lemmas.List.Elements.{All-head, All-push, All-tail, All-weaker, filter_passes}
use Rattle.text_lines.specs.Words.{is_blank, is_plain, is_word, words_of}
use Rattle.setup_text.proofs.PassedTests.{ok_same, passed}
use Rattle.reader_pace.specs.Drafts.{line_after, more_after, named_after, nothing_said, pace_after, pair_after, put_once}
use Rattle.reader_pace.specs.Drafts.{set_once, stall_after, value_after, values_after, word_after, words_after}
use Rattle.reader_pace.specs.Drafts as drafts
use Rattle.reader_pace.specs.ReaderWords.{word_named}
use Rattle.reader_pace.specs.Sound.{ArePhases, IsMoreFile, IsPace, IsStall}
use Rattle.reader_pace.specs.Values.{all_phases, any_number, beginning_in, blocks_in, count_in, cpu_in, made, made_of_two}
use Rattle.reader_pace.specs.Values.{more_in, name_in, number_below, pause_in, phase_in, poll_in, stall_in, tested}
use Rattle.reader_pace.specs.declared.drafts.Bounds.{Bounds}
use Rattle.reader_pace.specs.declared.drafts.ReaderDraft.{ReaderDraft}
use Rattle.reader_pace.specs.declared.paces.MoreFile.{MoreFile}
use Rattle.reader_pace.specs.declared.paces.Pace.{Pace}
use Rattle.reader_pace.specs.declared.paces.Pace.TheVariants as pace
use Rattle.reader_pace.specs.declared.paces.Phases.{Phases}
use Rattle.reader_pace.specs.declared.paces.Phases.TheVariants as phases
use Rattle.reader_pace.specs.declared.paces.Stall.{Stall}
use Rattle.reader_pace.specs.declared.reader_error.ReaderKind.{ReaderKind}
use Rattle.reader_pace.specs.declared.reader_error.ReaderKind.TheVariants.{BadLine, BadNumber, NoSuchCpu, UnknownWord}
use Rattle.reader_pace.specs.declared.reader_words.ReaderWord.{ReaderWord}
use Rattle.reader_pace.specs.declared.reader_words.ReaderWord.TheVariants as word

-- ---- values

pub made_keeps : {A B : Type 0} (make : A → B) (given : Result A ReaderKind) (next : B) (Q : B → Type 0)
    → ((value : A) → given ≡ Ok value → Q (make value)) → made make given ≡ Ok next → Q next
made_keeps make (Ok value) next Q k h = subst Q (ok_same (make value) next h) (k value refl)
made_keeps make (Err fault) next Q k h = cc

pub two_keep : {A B C : Type 0} (make : A → B → C) (one : Result A ReaderKind) (other : Result B ReaderKind) (next : C)
    (Q : C → Type 0)
    → ((a : A) (b : B) → one ≡ Ok a → other ≡ Ok b → Q (make a b)) → made_of_two make one other ≡ Ok next → Q next
two_keep make (Ok a) other next Q k h = made_keeps (make a) other next Q (λ b e. k a b refl e) h
two_keep make (Err fault) other next Q k h = cc

pub once_keeps : {A B : Type 0} (make : Option A → B) (before : Option A) (given : Result A ReaderKind) (next : B)
    (Q : B → Type 0)
    → ((value : A) → given ≡ Ok value → Q (make (Some value))) → made make (put_once before given) ≡ Ok next → Q next
once_keeps make (Some before) given next Q k h = cc
once_keeps make None given next Q k h =
    made_keeps make (made Some given) next Q
    (λ kept e. made_keeps Some given kept (λ kept. Q (make kept)) (λ value e. k value e) e) h

test_holds : (test : ℕ → Bool) (fault : ReaderKind) (given : Result ℕ ReaderKind) (number : ℕ)
    → tested test fault given ≡ Ok number → test number ≡ true
test_holds test fault (Ok value) number h =
    passed (λ number. test number ≡ true) (test value) value number fault (λ t. t) h
test_holds test fault (Err other) number h = cc

count_positive : (word : List ℕ) (number : ℕ) → count_in word ≡ Ok number → 0 < number
unfolding count_in
count_positive word number h =
    omega (arith, leb-true 1 number (test_holds (λ number. nat_le 1 number) BadNumber (any_number word) number h))

pause_sound : (word : List ℕ) (pace : Pace) → pause_in word ≡ Ok pace → IsPace pace
unfolding pause_in
pause_sound word paced h = made_keeps pace.Pause (count_in word) paced IsPace (count_positive word) h

poll_sound : (word : List ℕ) (pace : Pace) → poll_in word ≡ Ok pace → IsPace pace
unfolding poll_in
poll_sound word paced h = made_keeps pace.Poll (any_number word) paced IsPace (λ number e. tt) h

blocks_sound : (word : List ℕ) (pace : Pace) → blocks_in word ≡ Ok pace → IsPace pace
unfolding blocks_in
blocks_sound word paced h = made_keeps pace.Blocks (count_in word) paced IsPace (count_positive word) h

stall_sound : (from long : List ℕ) (stall : Stall) → stall_in from long ≡ Ok stall → IsStall stall
unfolding stall_in
stall_sound from long stall h =
    two_keep (λ from long. record { from = from; length = long }) (any_number from) (count_in long) stall IsStall
    (λ a b e f. count_positive long b f) h

phase_sound : (tov : ℕ) (word : List ℕ) (said : Phases) → phase_in tov word ≡ Ok said → ArePhases tov false said
unfolding phase_in number_below
phase_sound tov word said h =
    made_keeps phases.One (number_below tov word) said (ArePhases tov false)
    (λ number e. ltb-true number tov (test_holds (λ number. nat_lt number tov) BadNumber (any_number word) number e)) h

all_sound : (tov : ℕ) (word : List ℕ) (said : Phases) → all_phases word ≡ Ok said → ArePhases tov false said
unfolding all_phases
all_sound tov word said h = passed (ArePhases tov false) _ phases.All said UnknownWord (λ t. tt) h

name_small : (word name : List ℕ) → 0 < length word → name_in word ≡ Ok name → (0 < length name) × (length name ≤ 255)
unfolding name_in
name_small word name some h =
    passed (λ name. (0 < length name) × (length name ≤ 255)) (nat_le (length word) 255) word name BadNumber
    (λ t. (some, leb-true (length word) 255 t)) h

cpu_small : (cpus : ℕ) (word : List ℕ) (cpu : ℕ) → cpu_in cpus word ≡ Ok cpu → cpu < cpus
unfolding cpu_in
cpu_small cpus word cpu h =
    ltb-true cpu cpus (test_holds (λ number. nat_lt number cpus) NoSuchCpu (any_number word) cpu h)

more_sound : (cpus : ℕ) (cpu file : List ℕ) (more : MoreFile) → 0 < length file → more_in cpus cpu file ≡ Ok more
    → IsMoreFile cpus more
unfolding more_in
more_sound cpus cpu file more some h =
    two_keep (λ cpu file. record { cpu = cpu; file = file }) (cpu_in cpus cpu) (name_in file) more (IsMoreFile cpus)
    (λ a b e f. let name = name_small file b some f in record {
      cpu = cpu_small cpus cpu a e;
      named = name.0;
      name = name.1;
    }) h

-- ---- lines

-- what holds of what lines without a fault say
pub record IsDraft (bounds : Bounds) (draft : ReaderDraft) : Type 0 where
  pub pace : IfSome draft.pace IsPace
  pub stalls : All IsStall draft.stalls
  pub phases : IfSome draft.phases (ArePhases bounds.tov false)
  pub more : All (IsMoreFile bounds.cpus) draft.more

-- words have a byte
abbrev HasByte : List ℕ → Type 0
HasByte word = 0 < length word

word_keeps : (bounds : Bounds) (draft : ReaderDraft) (said : ReaderWord) (next : ReaderDraft) → IsDraft bounds draft
    → word_after draft said ≡ Ok next → IsDraft bounds next
word_keeps bounds draft word.Slots next p h =
    made_keeps (λ set. record draft { slots = set }) (set_once draft.slots) next (IsDraft bounds)
    (λ set e. record { pace = p.pace; stalls = p.stalls; phases = p.phases; more = p.more }) h
word_keeps bounds draft said next p h = cc

pace_keeps : (bounds : Bounds) (draft : ReaderDraft) (given : Result Pace ReaderKind) (next : ReaderDraft)
    → IsDraft bounds draft
    → ((paced : Pace) → given ≡ Ok paced → IsPace paced) → pace_after draft given ≡ Ok next → IsDraft bounds next
pace_keeps bounds draft given next p k h =
    once_keeps (λ paced. record draft { pace = paced }) draft.pace given next (IsDraft bounds)
    (λ paced e. record { pace = k paced e; stalls = p.stalls; phases = p.phases; more = p.more }) h

phases_keep : (bounds : Bounds) (draft : ReaderDraft) (given : Result Phases ReaderKind) (next : ReaderDraft)
    → IsDraft bounds draft
    → ((said : Phases) → given ≡ Ok said → ArePhases bounds.tov false said) → drafts.phases_after draft given ≡ Ok next
    → IsDraft bounds next
phases_keep bounds draft given next p k h =
    once_keeps (λ said. record draft { phases = said }) draft.phases given next (IsDraft bounds)
    (λ said e. record { pace = p.pace; stalls = p.stalls; phases = k said e; more = p.more }) h

value_keeps : (bounds : Bounds) (draft : ReaderDraft) (said : ReaderWord) (value : List ℕ) (next : ReaderDraft)
    → IsDraft bounds draft
    → value_after bounds.tov draft said value ≡ Ok next → IsDraft bounds next
value_keeps bounds draft word.Pause value next p h = pace_keeps bounds draft (pause_in value) next p (pause_sound value) h
value_keeps bounds draft word.Poll value next p h = pace_keeps bounds draft (poll_in value) next p (poll_sound value) h
value_keeps bounds draft word.Blocks value next p h = pace_keeps bounds draft (blocks_in value) next p (blocks_sound value) h
value_keeps bounds draft word.Phase value next p h =
    phases_keep bounds draft (phase_in bounds.tov value) next p (phase_sound bounds.tov value) h
value_keeps bounds draft word.Phases value next p h =
    phases_keep bounds draft (all_phases value) next p (all_sound bounds.tov value) h
value_keeps bounds draft word.From value next p h =
    once_keeps (λ from. record draft { beginnings = from }) draft.beginnings (beginning_in value) next (IsDraft bounds)
    (λ from e. record { pace = p.pace; stalls = p.stalls; phases = p.phases; more = p.more }) h
value_keeps bounds draft said value next p h = cc

pair_keeps : (bounds : Bounds) (draft : ReaderDraft) (said : ReaderWord) (value second : List ℕ) (next : ReaderDraft)
    → 0 < length second → IsDraft bounds draft → pair_after bounds.cpus draft said value second ≡ Ok next
    → IsDraft bounds next
pair_keeps bounds draft word.Stall value second next some p h =
    made_keeps (λ stall. record draft { stalls = draft.stalls ++ stall ∷ [] }) (stall_in value second) next (IsDraft bounds)
    (λ stall e. record {
      pace = p.pace;
      stalls = All-push IsStall draft.stalls stall p.stalls (stall_sound value second stall e);
      phases = p.phases;
      more = p.more;
    }) h
pair_keeps bounds draft word.More value second next some p h =
    made_keeps (λ more. record draft { more = draft.more ++ more ∷ [] }) (more_in bounds.cpus value second) next
    (IsDraft bounds)
    (λ more e. record {
      pace = p.pace;
      stalls = p.stalls;
      phases = p.phases;
      more = All-push (IsMoreFile bounds.cpus) draft.more more p.more (more_sound bounds.cpus value second more some e);
    }) h
pair_keeps bounds draft said value second next some p h = cc

values_keep : (bounds : Bounds) (draft : ReaderDraft) (said : ReaderWord) (values : List (List ℕ)) (next : ReaderDraft)
    → All HasByte values → IsDraft bounds draft → values_after bounds draft said values ≡ Ok next → IsDraft bounds next
unfolding values_after
values_keep bounds draft said [] next all p h = word_keeps bounds draft said next p h
values_keep bounds draft said (value ∷ []) next all p h = value_keeps bounds draft said value next p h
values_keep bounds draft said (value ∷ second ∷ []) next all p h =
    pair_keeps bounds draft said value second next
    (All-head HasByte second [] (All-tail HasByte value (second ∷ []) all)) p h
values_keep bounds draft said (value ∷ second ∷ third ∷ more) next all p h = cc

named_keep : (bounds : Bounds) (draft : ReaderDraft) (said : Option ReaderWord) (values : List (List ℕ)) (next : ReaderDraft)
    → All HasByte values → IsDraft bounds draft → named_after bounds draft said values ≡ Ok next → IsDraft bounds next
named_keep bounds draft None values next all p h = cc
named_keep bounds draft (Some said) values next all p h = values_keep bounds draft said values next all p h

words_keep : (bounds : Bounds) (draft : ReaderDraft) (words : List (List ℕ)) (next : ReaderDraft) → All HasByte words
    → IsDraft bounds draft → words_after bounds draft words ≡ Ok next → IsDraft bounds next
words_keep bounds draft [] next all p h = subst (IsDraft bounds) (ok_same draft next h) p
words_keep bounds draft (first ∷ values) next all p h =
    named_keep bounds draft (word_named first) values next (All-tail HasByte first values all) p h

plain_keeps : (bounds : Bounds) (draft : ReaderDraft) (plain : Bool) (words : List (List ℕ)) (next : ReaderDraft)
    → All HasByte words
    → IsDraft bounds draft → (if plain then words_after bounds draft words else Err BadLine) ≡ Ok next
    → IsDraft bounds next
plain_keeps bounds draft true words next all p h = words_keep bounds draft words next all p h
plain_keeps bounds draft false words next all p h = cc

word_has_byte : (word : List ℕ) → is_word word ≡ true → HasByte word
word_has_byte [] h = cc
word_has_byte (b ∷ bytes) h = omega arith

words_have_bytes : (line : List ℕ) → All HasByte (words_of line)
unfolding words_of
words_have_bytes line = All-weaker (λ word. is_word word ≡ true) HasByte word_has_byte
    (filter is_word (slice_split is_blank line)) (filter_passes is_word (slice_split is_blank line))

pub line_keeps : (bounds : Bounds) (draft : ReaderDraft) (line : List ℕ) (next : ReaderDraft)
    → line_after bounds draft line ≡ Ok next
    → IsDraft bounds draft → IsDraft bounds next
unfolding line_after
line_keeps bounds draft line next h p =
    plain_keeps bounds draft (is_plain line) (words_of line) next (words_have_bytes line) p h
