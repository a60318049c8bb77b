-- What the lines of a setup say, one after another.
use Rattle.std.specs.Prelude.{ℕ, Bool, List, [], ◌∷◌, ◌++◌, length, codes, bytes_eq, nat_lt, true}
use Rattle.std.specs.Prelude.{false, if◌then◌else◌, Option, None, Some, Result, Ok, Err}
use Rattle.text_lines.specs.Words.{is_plain, words_of}
use Rattle.setup_text.specs.SetupWords.{word_named}
use Rattle.setup_text.specs.Values.{any_number, bytes_in, made_in, mode_in, name_in, number_to}
use Rattle.setup_text.specs.declared.drafts.Draft.{Draft}
use Rattle.setup_text.specs.declared.setup_words.SetupWord.{SetupWord}
use Rattle.setup_text.specs.declared.setup_words.SetupWord.TheVariants as word
use Rattle.setup_text.specs.declared.setup_error.SetupKind.{SetupKind}
use Rattle.setup_text.specs.declared.setup_error.SetupKind.TheVariants.{BadLine, UnknownWord, Twice}

-- no line said anything yet
abbrev pub nothing_said : Draft
nothing_said = record {
  block_size = None;
  block_nr = None;
  frame_size = None;
  frame_nr = None;
  tov = None;
  sizeof_priv = None;
  features = None;
  cpus = [];
  members = None;
  mode = None;
  rollover = false;
  defrag = false;
  key = None;
  mac = None;
  filter = None;
  ticks = None;
  out = None;
  dump = false;
  skip_bad = false;
  made = None;
  workers = None;
}

abbrev pub said : {A : Type 0} → Result A SetupKind → (A → Draft) → Result Draft SetupKind
said (Ok value) draft = Ok (draft value)
said (Err fault) draft = Err fault

-- what is kept of a word that may appear only once: that it appeared before is the fault
abbrev pub put_once : {A : Type 0} → Option A → Result A SetupKind → Result (Option A) SetupKind
put_once (Some before) value = Err Twice
put_once None (Ok value) = Ok (Some value)
put_once None (Err fault) = Err fault

abbrev pub once :
    {A : Type 0} → Option A → Result A SetupKind → (Option A → Draft) → Result Draft SetupKind
once before value draft = said (put_once before value) draft

-- a flag that may appear only once
abbrev pub set_once : Bool → Result Bool SetupKind
set_once true = Err Twice
set_once false = Ok true

-- a word that may appear only once, with the value `yes` and no other
abbrev pub yes_once : Bool → List ℕ → Result Bool SetupKind
yes_once true word = Err Twice
yes_once false word = if bytes_eq word (codes "yes") then Ok true else Err UnknownWord

-- the queue of the CPU with this number
abbrev pub queue_in : ℕ → Option (List ℕ) → Result ℕ SetupKind
queue_in number None = Ok number
queue_in number (Some word) = number_to 65535 word

abbrev pub with_queue : Draft → List ℕ → Result ℕ SetupKind → Result Draft SetupKind
with_queue draft file queue =
    said queue (λ queue.
    record draft { cpus = draft.cpus ++ record { file = file; queue = queue } ∷ [] })

abbrev pub with_file :
    Draft → Result (List ℕ) SetupKind → Result ℕ SetupKind → Result Draft SetupKind
with_file draft (Ok file) queue = with_queue draft file queue
with_file draft (Err fault) queue = Err fault

-- one more CPU, of at most eight
unfoldable pub cpu_after : Draft → List ℕ → Option (List ℕ) → Result Draft SetupKind
cpu_after draft file queue =
    if nat_lt 7 (length draft.cpus) then Err BadLine
    else with_file draft (name_in file) (queue_in (length draft.cpus) queue)

-- one more flag
unfoldable pub flag_after : Draft → List ℕ → Result Draft SetupKind
flag_after draft word =
    if bytes_eq word (codes "rollover")
    then said (set_once draft.rollover) (λ set. record draft { rollover = set })
    else if bytes_eq word (codes "defrag")
    then said (set_once draft.defrag) (λ set. record draft { defrag = set })
    else Err UnknownWord

-- a setup word with one value: what the value is, and where it is kept
unfoldable pub value_after : Draft → SetupWord → List ℕ → Result Draft SetupKind
value_after draft word.BlockSize value =
    once draft.block_size (any_number value) (λ n. record draft { block_size = n })
value_after draft word.BlockNr value =
    once draft.block_nr (any_number value) (λ n. record draft { block_nr = n })
value_after draft word.FrameSize value =
    once draft.frame_size (any_number value) (λ n. record draft { frame_size = n })
value_after draft word.FrameNr value =
    once draft.frame_nr (any_number value) (λ n. record draft { frame_nr = n })
value_after draft word.Tov value =
    once draft.tov (number_to 60000 value) (λ n. record draft { tov = n })
value_after draft word.Priv value =
    once draft.sizeof_priv (any_number value) (λ n. record draft { sizeof_priv = n })
value_after draft word.Features value =
    once draft.features (any_number value) (λ n. record draft { features = n })
value_after draft word.Cpu value = cpu_after draft value None
value_after draft word.Members value =
    once draft.members (any_number value) (λ n. record draft { members = n })
value_after draft word.Mode value =
    once draft.mode (mode_in value) (λ mode. record draft { mode = mode })
value_after draft word.Flag value = flag_after draft value
value_after draft word.Key value =
    once draft.key (bytes_in 40 value) (λ bytes. record draft { key = bytes })
value_after draft word.Mac value =
    once draft.mac (bytes_in 6 value) (λ bytes. record draft { mac = bytes })
value_after draft word.Filter value =
    once draft.filter (name_in value) (λ name. record draft { filter = name })
value_after draft word.Ticks value =
    once draft.ticks (name_in value) (λ name. record draft { ticks = name })
value_after draft word.Out value =
    once draft.out (name_in value) (λ name. record draft { out = name })
value_after draft word.Dump value =
    said (yes_once draft.dump value) (λ set. record draft { dump = set })
value_after draft word.SkipBad value =
    said (yes_once draft.skip_bad value) (λ set. record draft { skip_bad = set })
value_after draft word.Make value = Err BadLine
value_after draft word.Workers value =
    once draft.workers (number_to 8 value) (λ n. record draft { workers = n })

-- a setup word with two values: only a CPU and made frames have two
abbrev pub pair_after : Draft → SetupWord → List ℕ → List ℕ → Result Draft SetupKind
pair_after draft word.Cpu file queue = cpu_after draft file (Some queue)
pair_after draft word.Make seed count =
    once draft.made (made_in seed count) (λ made. record draft { made = made })
pair_after draft word value second = Err BadLine

-- a setup word and its values
unfoldable pub values_after : Draft → SetupWord → List (List ℕ) → Result Draft SetupKind
values_after draft word [] = Err BadLine
values_after draft word (value ∷ []) = value_after draft word value
values_after draft word (value ∷ second ∷ []) = pair_after draft word value second
values_after draft word (value ∷ second ∷ third ∷ more) = Err BadLine

abbrev pub named_after : Draft → Option SetupWord → List (List ℕ) → Result Draft SetupKind
named_after draft None values = Err UnknownWord
named_after draft (Some word) values = values_after draft word values

-- the words of a line; one without a word changes nothing
abbrev pub words_after : Draft → List (List ℕ) → Result Draft SetupKind
words_after draft [] = Ok draft
words_after draft (first ∷ values) = named_after draft (word_named first) values

-- what is said after a line, or the first fault of the line
unfoldable pub line_after : Draft → List ℕ → Result Draft SetupKind
line_after draft line = if is_plain line then words_after draft (words_of line) else Err BadLine
