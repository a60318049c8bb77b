-- What a schedule says: what is done, line by line.
use Rattle.std.specs.Prelude.{ℕ, List, [], ◌∷◌, codes, bytes_eq, nat_lt, if◌then◌else◌, Option}
use Rattle.std.specs.Prelude.{None, Some, Result, Ok, Err}
use Rattle.std.specs.List.{fold}
use Rattle.setup_text.specs.declared.lines.Line.{Line}
use Rattle.setup_text.specs.declared.lines.Line.TheVariants as line
use Rattle.text_lines.specs.Numbers.{number_of}
use Rattle.text_lines.specs.Words.{is_plain, words_of}
use Rattle.setup_text.specs.Moments.{items_of, only_of}
use Rattle.setup_text.specs.declared.schedules.Verb.{Verb}
use Rattle.setup_text.specs.declared.schedules.Verb.TheVariants as verb
use Rattle.setup_text.specs.declared.text_error.TextError.{TextError}
use Rattle.setup_text.specs.declared.text_error.TextKind.{TextKind}
use Rattle.setup_text.specs.declared.text_error.TextKind.TheVariants.{BadLine, UnknownWord}
use Rattle.setup_text.specs.declared.text_error.TextKind.TheVariants.{BadNumber, NotAscending}
use Rattle.setup_text.specs.declared.text_error.TextKind.TheVariants.{NoSuchCpu, NoSuchMember}
use Rattle.setup_text.specs.declared.text_error.Which.TheVariants.{Schedule}

-- what a line may begin with
unfoldable pub verb_named : List ℕ → Option Verb
verb_named word =
    if bytes_eq word (codes "feed") then Some verb.Feed
    else if bytes_eq word (codes "read") then Some verb.Read
    else if bytes_eq word (codes "tick") then Some verb.Tick
    else if bytes_eq word (codes "stats") then Some verb.Stats
    else None

-- the clock after a line
abbrev pub clock_after : ℕ → Line → ℕ
clock_after clock (line.Tick moment) = moment
clock_after clock line = clock

-- the clock after some lines, in milliseconds; at first it is 0
abbrev pub clock_of : List Line → ℕ
clock_of lines = fold clock_after 0 lines

-- what is done with a number: it names a CPU or member that exists, and the clock doesn't go back
unfoldable pub line_with : ℕ → ℕ → ℕ → Verb → ℕ → Result Line TextKind
line_with cpus members clock verb.Feed number =
    if nat_lt number cpus then Ok (line.Feed number) else Err NoSuchCpu
line_with cpus members clock verb.Read number =
    if nat_lt number members then Ok (line.Read number) else Err NoSuchMember
line_with cpus members clock verb.Tick number =
    if nat_lt number clock then Err NotAscending else Ok (line.Tick number)
line_with cpus members clock verb.Stats number =
    if nat_lt number members then Ok (line.Stats number) else Err NoSuchMember

abbrev pub numbered : ℕ → ℕ → ℕ → Verb → Option ℕ → Result Line TextKind
numbered cpus members clock verb None = Err BadNumber
numbered cpus members clock verb (Some number) = line_with cpus members clock verb number

abbrev pub valued : ℕ → ℕ → ℕ → Verb → Option (List ℕ) → Result Line TextKind
valued cpus members clock verb None = Err BadLine
valued cpus members clock verb (Some word) = numbered cpus members clock verb (number_of word)

abbrev pub named : ℕ → ℕ → ℕ → Option Verb → List (List ℕ) → Result Line TextKind
named cpus members clock None values = Err UnknownWord
named cpus members clock (Some verb) values = valued cpus members clock verb (only_of values)

abbrev pub worded : ℕ → ℕ → ℕ → List (List ℕ) → Result Line TextKind
worded cpus members clock [] = Err BadLine
worded cpus members clock (first ∷ values) = named cpus members clock (verb_named first) values

-- what a line says, given the clock before it
unfoldable pub line_in : ℕ → ℕ → ℕ → List ℕ → Result Line TextKind
line_in cpus members clock text =
    if is_plain text then worded cpus members clock (words_of text) else Err BadLine

-- what a text says, for these numbers of CPUs and members, or its first fault
unfoldable pub schedule_of : ℕ → ℕ → List ℕ → Result (List Line) TextError
schedule_of cpus members text =
    items_of Schedule (λ lines line. line_in cpus members (clock_of lines) line) text
