-- A key as its hexadecimal digits.
use Rattle.std.specs.Prelude.{ℕ, ◌≡◌, ◌%◌, List, codes, length}
use Rattle.std.specs.List.{AllPass}
use Rattle.hex.specs.Hex.{is_hex_digit}
use Rattle.hex.specs.declared.error.FromHexError.{FromHexError}
use Rattle.hex.specs.declared.error.FromHexError.TheVariants.{OutOfMemory}
use Rattle.flow_hash.specs.declared.hash_keys.KeyError.{KeyError}
use Rattle.flow_hash.specs.declared.hash_keys.KeyError.TheVariants.{NotHex, WrongLength, Memory}

-- an even number of hexadecimal digits, in either case
abbrev pub IsHex : List ℕ → Type 0
IsHex text = (length text % 2 ≡ 0) × AllPass is_hex_digit text

-- a fault of the digits as a fault of a key
abbrev pub key_error : FromHexError → KeyError
key_error OutOfMemory = Memory
key_error _ = NotHex

-- the printed words of a fault
abbrev pub words_of : KeyError → List ℕ
words_of NotHex = codes "not hexadecimal digits"
words_of WrongLength = codes "not 40 bytes"
words_of Memory = codes "out of memory"
