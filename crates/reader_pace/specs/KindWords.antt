-- The words for faults, as a program prints them.
use Rattle.std.specs.Prelude.{ℕ, List, codes}
use Rattle.reader_pace.specs.declared.reader_error.ReaderKind.{ReaderKind}
use Rattle.reader_pace.specs.declared.reader_error.ReaderKind.TheVariants as kind

-- the word for a fault of a reader's text
abbrev pub kind_word : ReaderKind → List ℕ
kind_word kind.BadLine = codes "bad_line"
kind_word kind.UnknownWord = codes "unknown_word"
kind_word kind.Twice = codes "twice"
kind_word kind.BadNumber = codes "bad_number"
kind_word kind.NoSuchCpu = codes "no_such_cpu"
kind_word kind.Missing = codes "missing"
kind_word kind.BadPhase = codes "bad_phase"
kind_word kind.BadFrom = codes "bad_from"
kind_word kind.TooLarge = codes "too_large"
kind_word kind.Memory = codes "memory"
