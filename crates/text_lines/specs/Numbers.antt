-- A number as a text spells it.
use Rattle.std.specs.Prelude.{ℕ, ◌+◌, ◌-◌, ◌*◌, Bool, ◌&&◌, List, length, nat_le, if◌then◌else◌}
use Rattle.std.specs.Prelude.{Option, None, Some}
use Rattle.std.specs.Char.{is_ascii_digit}
use Rattle.std.specs.List.{fold, list_all}

-- the value of decimal digits, the highest first
abbrev pub value_of : List ℕ → ℕ
value_of digits = fold (λ value b. value * 10 + (b - 48)) 0 digits

-- 1 to 10 decimal digits, leading zeros included, with a value of at most 4,294,967,295
abbrev pub is_number : List ℕ → Bool
is_number word =
    nat_le 1 (length word) && nat_le (length word) 10 && list_all is_ascii_digit word
    && nat_le (value_of word) 4294967295

-- the number that a word spells, if it is one
unfoldable pub number_of : List ℕ → Option ℕ
number_of word = if is_number word then Some (value_of word) else None
