-- What holds of the lines of a setup, one after another.
use Rattle.std.proofs.Common.{◌≡◌, ℕ, zero, suc, ◌<◌, ◌≤◌, Bool, true, false, List, [], ◌∷◌, ◌++◌, length, refl, subst, arith}
use Rattle.std.proofs.Common.{Some, None, Option, Ok, Err, length-append}
use Rattle.std.specs.Prelude.{Result, All, nat_lt, nat_le, ◌==◌, bytes_eq, codes, if◌then◌else◌}
use Rattle.std.proofs.lemmas.Bool.{leb-true, ltb-false}
use Rattle.std.proofs.lemmas.List.Elements.{All-head, All-push, All-tail, All-weaker, filter_passes}
use Rattle.text_lines.specs.Numbers.{number_of}
use Rattle.std.specs.List.{filter, slice_split}
use Rattle.text_lines.specs.Words.{is_blank, is_plain, is_word, words_of}
use Rattle.setup_text.specs.Drafts.{cpu_after, flag_after, line_after, named_after, pair_after, put_once, queue_in, said}
use Rattle.setup_text.specs.Drafts.{set_once, value_after, values_after, with_file, words_after}
use Rattle.setup_text.specs.SetupWords.{word_named}
use Rattle.setup_text.specs.Sound.{IsCpu, IsName}
use Rattle.setup_text.specs.Values.{any_number, count_to, made_from, made_in, name_in, not_zero, number_to, number_within}
use Rattle.setup_text.specs.declared.cpu_setups.CpuSetup.{CpuSetup}
use Rattle.setup_text.specs.declared.drafts.Draft.{Draft}
use Rattle.setup_text.specs.declared.made_frames.MadeFrames.{MadeFrames}
use Rattle.setup_text.specs.declared.setup_error.SetupKind.{SetupKind}
use Rattle.setup_text.specs.declared.setup_error.SetupKind.TheVariants.{BadLine, BadNumber}
use Rattle.setup_text.specs.declared.setup_words.SetupWord.{SetupWord}
use Rattle.setup_text.specs.declared.setup_words.SetupWord.TheVariants as word
use Rattle.setup_text.proofs.PassedTests.{ok_same, passed, spared}

-- frames that are made are at least one, and at most 20,000
abbrev pub AreFrames : Option MadeFrames → Type 0
AreFrames None = Unit {0}
AreFrames (Some made) = (1 ≤ made.count) × (made.count ≤ 20000)

-- a time-out, if there is one, is at most a minute
abbrev pub IsTimeOut : Option ℕ → Type 0
IsTimeOut None = Unit {0}
IsTimeOut (Some tov) = tov ≤ 60000

-- the number of workers, if given, is at most eight
abbrev pub AreWorkers : Option ℕ → Type 0
AreWorkers None = Unit {0}
AreWorkers (Some workers) = workers ≤ 8

-- words have a byte
abbrev HasByte : List ℕ → Type 0
HasByte word = 0 < length word

pub record IsDraft (draft : Draft) : Type 0 where
  pub few : length draft.cpus ≤ 8
  pub cpus : All IsCpu draft.cpus
  pub made : AreFrames draft.made
  pub tov : IsTimeOut draft.tov
  pub filter : IsName draft.filter
  pub ticks : IsName draft.ticks
  pub out : IsName draft.out
  pub workers : AreWorkers draft.workers

said_keeps : {A : Type 0} (given : Result A SetupKind) (draft : A → Draft) (next : Draft)
    → ((value : A) → IsDraft (draft value))
    → said given draft ≡ Ok next → IsDraft next
said_keeps (Ok value) draft next k h = subst IsDraft (ok_same (draft value) next h) (k value)
said_keeps (Err fault) draft next k h = cc

name_small : (word name : List ℕ) → 0 < length word → name_in word ≡ Ok name → (0 < length name) × (length name ≤ 255)
unfolding name_in
name_small word name some h =
    passed (λ name. (0 < length name) × (length name ≤ 255)) (nat_le (length word) 255) word name BadNumber
    (λ t. (some, leb-true (length word) 255 t)) h

number_small : (most : ℕ) (given : Option ℕ) (number : ℕ) → number_within most given ≡ Ok number → number ≤ most
number_small most None number h = cc
number_small most (Some value) number h =
    passed (λ number. number ≤ most) (nat_le value most) value number BadNumber (λ t. leb-true value most t) h

time_out_small : (word : List ℕ) (tov : ℕ) → number_to 60000 word ≡ Ok tov → tov ≤ 60000
unfolding number_to
time_out_small word tov h = number_small 60000 (number_of word) tov h

workers_few : (word : List ℕ) (workers : ℕ) → number_to 8 word ≡ Ok workers → workers ≤ 8
unfolding number_to
workers_few word workers h = number_small 8 (number_of word) workers h

-- a word that may appear only once keeps what holds of its value
once_keeps : {A : Type 0} (P : A → Type 0) (before : Option A) (given : Result A SetupKind) (draft : Option A → Draft)
    (next : Draft)
    → ((value : A) → given ≡ Ok value → P value) → ((value : A) → P value → IsDraft (draft (Some value)))
    → said (put_once before given) draft ≡ Ok next → IsDraft next
once_keeps P (Some before) given draft next k m h = cc
once_keeps P None (Err fault) draft next k m h = cc
once_keeps P None (Ok value) draft next k m h = subst IsDraft (ok_same (draft (Some value)) next h) (m value (k value refl))

queue_small : (cpu : ℕ) (word : Option (List ℕ)) (queue : ℕ) → cpu < 8 → queue_in cpu word ≡ Ok queue → queue ≤ 65535
unfolding number_to
queue_small cpu None queue few h = omega (arith, few, ok_same cpu queue h)
queue_small cpu (Some word) queue few h = number_small 65535 (number_of word) queue h

file_keeps : (draft : Draft) (file : Result (List ℕ) SetupKind) (queue : Result ℕ SetupKind) (next : Draft)
    → length draft.cpus < 8 → IsDraft draft
    → ((name : List ℕ) → file ≡ Ok name → (0 < length name) × (length name ≤ 255))
    → ((number : ℕ) → queue ≡ Ok number → number ≤ 65535)
    → with_file draft file queue ≡ Ok next → IsDraft next
file_keeps draft (Err fault) queue next few p n q h = cc
file_keeps draft (Ok file) (Err fault) next few p n q h = cc
file_keeps draft (Ok file) (Ok queue) next few p n q h =
    let cpu : CpuSetup = record { file = file; queue = queue } in
    subst IsDraft (ok_same (record draft { cpus = draft.cpus ++ cpu ∷ [] }) next h) (record {
      few = omega (arith, length-append draft.cpus (cpu ∷ []));
      cpus = All-push IsCpu draft.cpus cpu p.cpus
          (record { named = (n file refl).0; name = (n file refl).1; queue = q queue refl });
      made = p.made;
      tov = p.tov;
      filter = p.filter;
      ticks = p.ticks;
      out = p.out;
      workers = p.workers;
    })

cpu_keeps : (draft : Draft) (file : List ℕ) (queue : Option (List ℕ)) (next : Draft) → 0 < length file → IsDraft draft
    → cpu_after draft file queue ≡ Ok next → IsDraft next
unfolding cpu_after
cpu_keeps draft file queue next some p h =
    spared (IsDraft next) (nat_lt 7 (length draft.cpus))
    (with_file draft (name_in file) (queue_in (length draft.cpus) queue)) next BadLine
    (λ t e.
    let few : length draft.cpus < 8 = omega (arith, ltb-false 7 (length draft.cpus) t) in
    file_keeps draft (name_in file) (queue_in (length draft.cpus) queue) next few p (λ name. name_small file name some)
    (λ number. queue_small (length draft.cpus) queue number few) e) h

flag_chosen : (a b : Bool) (x y : Result Draft SetupKind) (fault : SetupKind) (next : Draft) → (x ≡ Ok next → IsDraft next)
    → (y ≡ Ok next → IsDraft next)
    → (if a then x else if b then y else Err fault) ≡ Ok next → IsDraft next
flag_chosen true b x y fault next p q h = p h
flag_chosen false true x y fault next p q h = q h
flag_chosen false false x y fault next p q h = cc

flag_keeps : (draft : Draft) (value : List ℕ) (next : Draft) → IsDraft draft → flag_after draft value ≡ Ok next → IsDraft next
unfolding flag_after
flag_keeps draft value next p h =
    flag_chosen (bytes_eq value (codes "rollover")) (bytes_eq value (codes "defrag")) _ _ _ next
    (λ e. said_keeps (set_once draft.rollover) (λ set. record draft { rollover = set }) next
    (λ set. record {
      few = p.few;
      cpus = p.cpus;
      made = p.made;
      tov = p.tov;
      filter = p.filter;
      ticks = p.ticks;
      out = p.out;
      workers = p.workers;
    }) e)
    (λ e. said_keeps (set_once draft.defrag) (λ set. record draft { defrag = set }) next
    (λ set. record {
      few = p.few;
      cpus = p.cpus;
      made = p.made;
      tov = p.tov;
      filter = p.filter;
      ticks = p.ticks;
      out = p.out;
      workers = p.workers;
    }) e) h

value_keeps : (draft : Draft) (word : SetupWord) (value : List ℕ) (next : Draft) → 0 < length value → IsDraft draft
    → value_after draft word value ≡ Ok next → IsDraft next
unfolding value_after
value_keeps draft word.BlockSize value next some p h =
    said_keeps _ (λ n. record draft { block_size = n }) next
    (λ n. record {
      few = p.few;
      cpus = p.cpus;
      made = p.made;
      tov = p.tov;
      filter = p.filter;
      ticks = p.ticks;
      out = p.out;
      workers = p.workers;
    }) h
value_keeps draft word.BlockNr value next some p h =
    said_keeps _ (λ n. record draft { block_nr = n }) next
    (λ n. record {
      few = p.few;
      cpus = p.cpus;
      made = p.made;
      tov = p.tov;
      filter = p.filter;
      ticks = p.ticks;
      out = p.out;
      workers = p.workers;
    }) h
value_keeps draft word.FrameSize value next some p h =
    said_keeps _ (λ n. record draft { frame_size = n }) next
    (λ n. record {
      few = p.few;
      cpus = p.cpus;
      made = p.made;
      tov = p.tov;
      filter = p.filter;
      ticks = p.ticks;
      out = p.out;
      workers = p.workers;
    }) h
value_keeps draft word.FrameNr value next some p h =
    said_keeps _ (λ n. record draft { frame_nr = n }) next
    (λ n. record {
      few = p.few;
      cpus = p.cpus;
      made = p.made;
      tov = p.tov;
      filter = p.filter;
      ticks = p.ticks;
      out = p.out;
      workers = p.workers;
    }) h
value_keeps draft word.Tov value next some p h =
    once_keeps (λ n. n ≤ 60000) draft.tov (number_to 60000 value) (λ n. record draft { tov = n }) next (time_out_small value)
    (λ n small. record {
      few = p.few;
      cpus = p.cpus;
      made = p.made;
      tov = small;
      filter = p.filter;
      ticks = p.ticks;
      out = p.out;
      workers = p.workers;
    }) h
value_keeps draft word.Priv value next some p h =
    said_keeps _ (λ n. record draft { sizeof_priv = n }) next
    (λ n. record {
      few = p.few;
      cpus = p.cpus;
      made = p.made;
      tov = p.tov;
      filter = p.filter;
      ticks = p.ticks;
      out = p.out;
      workers = p.workers;
    }) h
value_keeps draft word.Features value next some p h =
    said_keeps _ (λ n. record draft { features = n }) next
    (λ n. record {
      few = p.few;
      cpus = p.cpus;
      made = p.made;
      tov = p.tov;
      filter = p.filter;
      ticks = p.ticks;
      out = p.out;
      workers = p.workers;
    }) h
value_keeps draft word.Cpu value next some p h = cpu_keeps draft value None next some p h
value_keeps draft word.Members value next some p h =
    said_keeps _ (λ n. record draft { members = n }) next
    (λ n. record {
      few = p.few;
      cpus = p.cpus;
      made = p.made;
      tov = p.tov;
      filter = p.filter;
      ticks = p.ticks;
      out = p.out;
      workers = p.workers;
    }) h
value_keeps draft word.Mode value next some p h =
    said_keeps _ (λ n. record draft { mode = n }) next
    (λ n. record {
      few = p.few;
      cpus = p.cpus;
      made = p.made;
      tov = p.tov;
      filter = p.filter;
      ticks = p.ticks;
      out = p.out;
      workers = p.workers;
    }) h
value_keeps draft word.Flag value next some p h = flag_keeps draft value next p h
value_keeps draft word.Key value next some p h =
    said_keeps _ (λ n. record draft { key = n }) next
    (λ n. record {
      few = p.few;
      cpus = p.cpus;
      made = p.made;
      tov = p.tov;
      filter = p.filter;
      ticks = p.ticks;
      out = p.out;
      workers = p.workers;
    }) h
value_keeps draft word.Mac value next some p h =
    said_keeps _ (λ n. record draft { mac = n }) next
    (λ n. record {
      few = p.few;
      cpus = p.cpus;
      made = p.made;
      tov = p.tov;
      filter = p.filter;
      ticks = p.ticks;
      out = p.out;
      workers = p.workers;
    }) h
value_keeps draft word.Filter value next some p h =
    once_keeps (λ n. (0 < length n) × (length n ≤ 255)) draft.filter (name_in value) (λ n. record draft { filter = n }) next
    (λ name. name_small value name some)
    (λ n small. record {
      few = p.few;
      cpus = p.cpus;
      made = p.made;
      tov = p.tov;
      filter = small;
      ticks = p.ticks;
      out = p.out;
      workers = p.workers;
    }) h
value_keeps draft word.Ticks value next some p h =
    once_keeps (λ n. (0 < length n) × (length n ≤ 255)) draft.ticks (name_in value) (λ n. record draft { ticks = n }) next
    (λ name. name_small value name some)
    (λ n small. record {
      few = p.few;
      cpus = p.cpus;
      made = p.made;
      tov = p.tov;
      filter = p.filter;
      ticks = small;
      out = p.out;
      workers = p.workers;
    }) h
value_keeps draft word.Out value next some p h =
    once_keeps (λ n. (0 < length n) × (length n ≤ 255)) draft.out (name_in value) (λ n. record draft { out = n }) next
    (λ name. name_small value name some)
    (λ n small. record {
      few = p.few;
      cpus = p.cpus;
      made = p.made;
      tov = p.tov;
      filter = p.filter;
      ticks = p.ticks;
      out = small;
      workers = p.workers;
    }) h
value_keeps draft word.Dump value next some p h =
    said_keeps _ (λ set. record draft { dump = set }) next
    (λ set. record {
      few = p.few;
      cpus = p.cpus;
      made = p.made;
      tov = p.tov;
      filter = p.filter;
      ticks = p.ticks;
      out = p.out;
      workers = p.workers;
    }) h
value_keeps draft word.SkipBad value next some p h =
    said_keeps _ (λ set. record draft { skip_bad = set }) next
    (λ set. record {
      few = p.few;
      cpus = p.cpus;
      made = p.made;
      tov = p.tov;
      filter = p.filter;
      ticks = p.ticks;
      out = p.out;
      workers = p.workers;
    }) h
value_keeps draft word.Make value next some p h = cc
value_keeps draft word.Workers value next some p h =
    once_keeps (λ n. n ≤ 8) draft.workers (number_to 8 value) (λ n. record draft { workers = n }) next (workers_few value)
    (λ n few. record {
      few = p.few;
      cpus = p.cpus;
      made = p.made;
      tov = p.tov;
      filter = p.filter;
      ticks = p.ticks;
      out = p.out;
      workers = few;
    }) h

is_positive : (number : ℕ) → (number == 0) ≡ false → 1 ≤ number
is_positive zero h = cc
is_positive (suc n) h = omega arith

count_positive : (given : Result ℕ SetupKind) (count : ℕ) → not_zero given ≡ Ok count → (1 ≤ count) × (given ≡ Ok count)
count_positive (Ok number) count h =
    spared ((1 ≤ count) × (◌≡◌ {A = Result ℕ SetupKind} (Ok number) (Ok count))) (number == 0) (Ok number) count BadNumber
    (λ t e. (subst (λ n. 1 ≤ n) (ok_same number count e) (is_positive number t), e)) h
count_positive (Err fault) count h = cc

count_small : (word : List ℕ) (count : ℕ) → count_to 20000 word ≡ Ok count → (1 ≤ count) × (count ≤ 20000)
unfolding count_to number_to
count_small word count h =
    let p = count_positive (number_within 20000 (number_of word)) count h in
    (p.0, number_small 20000 (number_of word) count p.1)

frames_small : (seed count : Result ℕ SetupKind) (made : MadeFrames)
    → ((number : ℕ) → count ≡ Ok number → (1 ≤ number) × (number ≤ 20000))
    → made_from seed count ≡ Ok made → AreFrames (Some made)
frames_small (Ok seed) (Ok count) made k h =
    subst (λ made. AreFrames (Some made)) (ok_same (record { seed = seed; count = count }) made h) (k count refl)
frames_small (Ok seed) (Err fault) made k h = cc
frames_small (Err fault) count made k h = cc

put_keeps : (draft : Draft) (before : Option MadeFrames) (given : Result MadeFrames SetupKind) (next : Draft) → IsDraft draft
    → ((made : MadeFrames) → given ≡ Ok made → AreFrames (Some made))
    → said (put_once before given) (λ made. record draft { made = made }) ≡ Ok next → IsDraft next
put_keeps draft (Some frames) given next p k h = cc
put_keeps draft None (Err fault) next p k h = cc
put_keeps draft None (Ok made) next p k h =
    subst IsDraft (ok_same (record draft { made = Some made }) next h)
    (record {
      few = p.few;
      cpus = p.cpus;
      made = k made refl;
      tov = p.tov;
      filter = p.filter;
      ticks = p.ticks;
      out = p.out;
      workers = p.workers;
    })

pair_keeps : (draft : Draft) (word : SetupWord) (file queue : List ℕ) (next : Draft) → 0 < length file → IsDraft draft
    → pair_after draft word file queue ≡ Ok next → IsDraft next
pair_keeps draft word.Cpu file queue next some p h = cpu_keeps draft file (Some queue) next some p h
pair_keeps draft word.Make seed count next some p h =
    put_keeps draft draft.made (made_in seed count) next p
    (λ made e. frames_small (any_number seed) (count_to 20000 count) made (λ number. count_small count number) e) h
pair_keeps draft word file queue next some p h = cc

values_keep : (draft : Draft) (word : SetupWord) (values : List (List ℕ)) (next : Draft) → All HasByte values → IsDraft draft
    → values_after draft word values ≡ Ok next → IsDraft next
unfolding values_after
values_keep draft word [] next all p h = cc
values_keep draft word (value ∷ []) next all p h = value_keeps draft word value next (All-head HasByte value [] all) p h
values_keep draft word (value ∷ second ∷ []) next all p h =
    pair_keeps draft word value second next (All-head HasByte value (second ∷ []) all) p h
values_keep draft word (value ∷ second ∷ third ∷ more) next all p h = cc

named_keep : (draft : Draft) (word : Option SetupWord) (values : List (List ℕ)) (next : Draft) → All HasByte values
    → IsDraft draft → named_after draft word values ≡ Ok next → IsDraft next
named_keep draft None values next all p h = cc
named_keep draft (Some word) values next all p h = values_keep draft word values next all p h

words_keep : (draft : Draft) (words : List (List ℕ)) (next : Draft) → All HasByte words → IsDraft draft
    → words_after draft words ≡ Ok next → IsDraft next
words_keep draft [] next all p h = subst IsDraft (ok_same draft next h) p
words_keep draft (first ∷ values) next all p h =
    named_keep draft (word_named first) values next (All-tail HasByte first values all) p h

plain_keeps : (draft : Draft) (plain : Bool) (words : List (List ℕ)) (next : Draft) → All HasByte words → IsDraft draft
    → (if plain then words_after draft words else Err BadLine) ≡ Ok next → IsDraft next
plain_keeps draft true words next all p h = words_keep draft words next all p h
plain_keeps draft false words next all p h = cc

word_has_byte : (word : List ℕ) → is_word word ≡ true → HasByte word
word_has_byte [] h = cc
word_has_byte (b ∷ bytes) h = omega arith

words_have_bytes : (line : List ℕ) → All HasByte (words_of line)
unfolding words_of
words_have_bytes line = All-weaker (λ word. is_word word ≡ true) HasByte word_has_byte
    (filter is_word (slice_split is_blank line)) (filter_passes is_word (slice_split is_blank line))

pub line_keeps : (draft : Draft) (line : List ℕ) (next : Draft) → line_after draft line ≡ Ok next → IsDraft draft → IsDraft next
unfolding line_after
line_keeps draft line next h p = plain_keeps draft (is_plain line) (words_of line) next (words_have_bytes line) p h
