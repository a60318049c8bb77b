-- The values that follow a reader's word: what each says, or why it is refused.
use Rattle.std.specs.Prelude.{ℕ, ◌*◌, Bool, false, List, length, codes, bytes_eq, nat_le, nat_lt}
use Rattle.std.specs.Prelude.{if◌then◌else◌, Option, None, Some, Result, Ok, Err}
use Rattle.text_lines.specs.Numbers.{number_of}
use Rattle.reader_pace.specs.declared.paces.Beginnings.{Beginnings}
use Rattle.reader_pace.specs.declared.paces.Beginnings.TheVariants as beginnings
use Rattle.reader_pace.specs.declared.paces.MoreFile.{MoreFile}
use Rattle.reader_pace.specs.declared.paces.Pace.{Pace}
use Rattle.reader_pace.specs.declared.paces.Pace.TheVariants as pace
use Rattle.reader_pace.specs.declared.paces.Phases.{Phases}
use Rattle.reader_pace.specs.declared.paces.Phases.TheVariants as phases
use Rattle.reader_pace.specs.declared.paces.Stall.{Stall}
use Rattle.reader_pace.specs.declared.reader_error.ReaderKind.{ReaderKind}
use Rattle.reader_pace.specs.declared.reader_error.ReaderKind.TheVariants.{BadNumber, NoSuchCpu}
use Rattle.reader_pace.specs.declared.reader_error.ReaderKind.TheVariants.{UnknownWord}

-- what is made of a value that is right
abbrev pub made : {A B : Type 0} → (A → B) → Result A ReaderKind → Result B ReaderKind
made make (Ok value) = Ok (make value)
made make (Err fault) = Err fault

-- what is made of two values that are right; the first fault is the first one's
abbrev pub made_of_two :
    {A B C : Type 0} → (A → B → C) → Result A ReaderKind → Result B ReaderKind → Result C ReaderKind
made_of_two make (Ok value) second = made (make value) second
made_of_two make (Err fault) second = Err fault

-- a value that passes a test; otherwise this is the fault
abbrev pub tested : (ℕ → Bool) → ReaderKind → Result ℕ ReaderKind → Result ℕ ReaderKind
tested test fault (Ok number) = if test number then Ok number else Err fault
tested test fault (Err other) = Err other

abbrev pub number_read : Option ℕ → Result ℕ ReaderKind
number_read None = Err BadNumber
number_read (Some number) = Ok number

-- a number of 32 bits
unfoldable pub any_number : List ℕ → Result ℕ ReaderKind
any_number word = number_read (number_of word)

-- a number of at least 1
unfoldable pub count_in : List ℕ → Result ℕ ReaderKind
count_in word = tested (λ number. nat_le 1 number) BadNumber (any_number word)

-- a number below this bound
unfoldable pub number_below : ℕ → List ℕ → Result ℕ ReaderKind
number_below bound word = tested (λ number. nat_lt number bound) BadNumber (any_number word)

-- the number of one of so many CPUs
unfoldable pub cpu_in : ℕ → List ℕ → Result ℕ ReaderKind
cpu_in cpus word = tested (λ number. nat_lt number cpus) NoSuchCpu (any_number word)

-- the name of a file: at most 255 bytes
unfoldable pub name_in : List ℕ → Result (List ℕ) ReaderKind
name_in word = if nat_le (length word) 255 then Ok word else Err BadNumber

-- `pause MS`: at least 1
unfoldable pub pause_in : List ℕ → Result Pace ReaderKind
pause_in word = made pace.Pause (count_in word)

-- `poll MS`: 0 is at once
unfoldable pub poll_in : List ℕ → Result Pace ReaderKind
poll_in word = made pace.Poll (any_number word)

-- `blocks N`: at least 1
unfoldable pub blocks_in : List ℕ → Result Pace ReaderKind
blocks_in word = made pace.Blocks (count_in word)

-- `stall FROM MS`: from any millisecond on, for at least 1
unfoldable pub stall_in : List ℕ → List ℕ → Result Stall ReaderKind
stall_in from long =
    made_of_two (λ from long. record { from = from; length = long }) (any_number from)
    (count_in long)

-- `phase MS`: below the time-out
unfoldable pub phase_in : ℕ → List ℕ → Result Phases ReaderKind
phase_in tov word = made phases.One (number_below tov word)

-- `phases all`: no other word
unfoldable pub all_phases : List ℕ → Result Phases ReaderKind
all_phases word = if bytes_eq word (codes "all") then Ok phases.All else Err UnknownWord

-- `from MS` or `from all`
unfoldable pub beginning_in : List ℕ → Result Beginnings ReaderKind
beginning_in word =
    if bytes_eq word (codes "all") then Ok beginnings.All else made beginnings.One (any_number word)

-- `more C FILE`: a CPU of the setup, and a name
unfoldable pub more_in : ℕ → List ℕ → List ℕ → Result MoreFile ReaderKind
more_in cpus cpu file =
    made_of_two (λ cpu file. record { cpu = cpu; file = file }) (cpu_in cpus cpu) (name_in file)

-- whether a whole millisecond is below the period of a reader: that of N blocks a second is a
-- second divided by N, and a reader that wakes after each block has none
abbrev pub is_below_period : Pace → ℕ → Bool
is_below_period (pace.Pause period) from = nat_lt from period
is_below_period (pace.Poll delay) from = false
is_below_period (pace.Blocks count) from = nat_lt (from * count) 1000
