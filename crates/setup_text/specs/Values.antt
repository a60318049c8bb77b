-- The values that follow a setup word: what each says, or why it is refused.
use Rattle.std.specs.Prelude.{ℕ, List, length, codes, bytes_eq, nat_le, ◌==◌, if◌then◌else◌, Option}
use Rattle.std.specs.Prelude.{None, Some, Result, Ok, Err}
use Rattle.hex.specs.Hex.{decode_sized}
use Rattle.hex.specs.declared.error.FromHexError.{FromHexError}
use Rattle.text_lines.specs.Numbers.{number_of}
use Rattle.fanout_group.specs.declared.modes.Mode.{Mode}
use Rattle.fanout_group.specs.declared.modes.Mode.TheVariants as mode
use Rattle.setup_text.specs.declared.made_frames.MadeFrames.{MadeFrames}
use Rattle.setup_text.specs.declared.setup_error.SetupKind.{SetupKind}
use Rattle.setup_text.specs.declared.setup_error.SetupKind.TheVariants.{UnknownWord, BadNumber}

abbrev pub number_within : ℕ → Option ℕ → Result ℕ SetupKind
number_within most None = Err BadNumber
number_within most (Some number) = if nat_le number most then Ok number else Err BadNumber

-- a number of at most this bound
unfoldable pub number_to : ℕ → List ℕ → Result ℕ SetupKind
number_to most word = number_within most (number_of word)

-- a number of 32 bits
abbrev pub any_number : List ℕ → Result ℕ SetupKind
any_number word = number_to 4294967295 word

abbrev pub not_zero : Result ℕ SetupKind → Result ℕ SetupKind
not_zero (Ok number) = if number == 0 then Err BadNumber else Ok number
not_zero (Err fault) = Err fault

-- a number from 1 to this bound
unfoldable pub count_to : ℕ → List ℕ → Result ℕ SetupKind
count_to most word = not_zero (number_to most word)

abbrev pub made_from : Result ℕ SetupKind → Result ℕ SetupKind → Result MadeFrames SetupKind
made_from (Ok seed) (Ok count) = Ok (record { seed = seed; count = count })
made_from (Ok seed) (Err fault) = Err fault
made_from (Err fault) count = Err fault

-- the number that frames are made from, and how many there are, at most 20,000
abbrev pub made_in : List ℕ → List ℕ → Result MadeFrames SetupKind
made_in seed count = made_from (any_number seed) (count_to 20000 count)

-- the name of a file, or what names begin with: at most 255 bytes
unfoldable pub name_in : List ℕ → Result (List ℕ) SetupKind
name_in word = if nat_le (length word) 255 then Ok word else Err BadNumber

-- a mode of the group
unfoldable pub mode_in : List ℕ → Result Mode SetupKind
mode_in word =
    if bytes_eq word (codes "hash") then Ok mode.Hash
    else if bytes_eq word (codes "lb") then Ok mode.Lb
    else if bytes_eq word (codes "cpu") then Ok mode.Cpu
    else if bytes_eq word (codes "rollover") then Ok mode.Rollover
    else if bytes_eq word (codes "qm") then Ok mode.Qm
    else Err UnknownWord

abbrev pub decoded : Result (List ℕ) FromHexError → Result (List ℕ) SetupKind
decoded (Ok bytes) = Ok bytes
decoded (Err error) = Err BadNumber

-- n bytes, each of two hexadecimal digits in either case
unfoldable pub bytes_in : ℕ → List ℕ → Result (List ℕ) SetupKind
bytes_in count word = decoded (decode_sized word count)
