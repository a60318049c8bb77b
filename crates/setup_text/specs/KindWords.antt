-- The words for faults, as the program prints them.
use Rattle.std.specs.Prelude.{ℕ, List, codes}
use Rattle.bpf_filter.specs.Words.{word_of}
use Rattle.setup_text.specs.SetupWords.{name_of}
use Rattle.setup_text.specs.declared.setup_error.Needed.{Needed}
use Rattle.setup_text.specs.declared.setup_error.Needed.TheVariants as needed
use Rattle.setup_text.specs.declared.setup_error.SetupKind.{SetupKind}
use Rattle.setup_text.specs.declared.setup_error.SetupKind.TheVariants as setup
use Rattle.setup_text.specs.declared.setup_words.SetupWord.TheVariants as word
use Rattle.setup_text.specs.declared.text_error.TextKind.{TextKind}
use Rattle.setup_text.specs.declared.text_error.TextKind.TheVariants as text
use Rattle.setup_text.specs.declared.text_error.Which.{Which}
use Rattle.setup_text.specs.declared.text_error.Which.TheVariants as which

-- a fault of a setup; after `missing`, `request` and `group` the program prints what is missing or
-- why
abbrev pub kind_word : SetupKind → List ℕ
kind_word setup.BadLine = codes "bad_line"
kind_word setup.UnknownWord = codes "unknown_word"
kind_word setup.Twice = codes "twice"
kind_word setup.BadNumber = codes "bad_number"
kind_word (setup.Missing needed) = codes "missing"
kind_word (setup.Request error) = codes "request"
kind_word (setup.Group error) = codes "group"
kind_word setup.TooLarge = codes "too_large"
kind_word setup.Memory = codes "memory"

-- what is missing: the setup word
abbrev pub needed_word : Needed → List ℕ
needed_word needed.BlockSize = name_of word.BlockSize
needed_word needed.BlockNr = name_of word.BlockNr
needed_word needed.FrameSize = name_of word.FrameSize
needed_word needed.FrameNr = name_of word.FrameNr
needed_word needed.Cpu = name_of word.Cpu
needed_word needed.Make = name_of word.Make

-- a text
abbrev pub which_word : Which → List ℕ
which_word which.Filter = codes "filter"
which_word which.Ticks = codes "ticks"
which_word which.Schedule = codes "schedule"

-- a fault of a text; for a filter the filter's own word
abbrev pub text_word : TextKind → List ℕ
text_word text.BadLine = codes "bad_line"
text_word text.UnknownWord = codes "unknown_word"
text_word text.BadNumber = codes "bad_number"
text_word text.NotAscending = codes "not_ascending"
text_word text.NoSuchCpu = codes "no_such_cpu"
text_word text.NoSuchMember = codes "no_such_member"
text_word text.TooLarge = codes "too_large"
text_word (text.Filter error) = word_of error
text_word text.Memory = codes "memory"
