-- Data of small records in one piece of memory.
use Rattle.std.specs.Prelude.{◌≡◌, ◌^◌, ◌≤◌, ◌<◌, ℕ, zero, suc, List, [], ◌++◌, length, take}
use Rattle.std.specs.Prelude.{drop, Option, None, Some}
use Rattle.pcapng_blocks.specs.declared.byte_order.Order.{Order}
use Rattle.capture_file.specs.Pcap.{record_size}

-- what is left of the data in a piece from a place on
abbrev pub left_of : Option (List ℕ) → ℕ → List ℕ
left_of None at = []
left_of (Some bytes) at = drop at bytes

-- the number of bytes in a piece
abbrev pub held : Option (List ℕ) → ℕ
held None = 0
held (Some bytes) = length bytes

-- the place is one of the piece, and no record is left without a piece
pub record IsSound (piece : Option (List ℕ)) (at records : ℕ) : Type 0 where
  pub place : at ≤ held piece
  pub few : held piece < 2 ^ 32
  pub none : piece ≡ None → records ≡ 0

-- the data of the records that are left, one after another, and the number of these records
pub record Left : Type 0 where
  pub bytes : List ℕ
  pub records : ℕ

-- the data of the first n of the whole records that the bytes begin with, one after another
unfoldable pub data_in : ℕ → Order → List ℕ → List ℕ
data_in zero order bytes = []
data_in (suc n) order bytes =
    drop 16 (take (record_size order bytes) bytes)
    ++ data_in n order (drop (record_size order bytes) bytes)

-- what is left is the data of the records that the bytes begin with
abbrev pub IsFrontOf : Order → Left → List ℕ → Type 0
IsFrontOf order left bytes = left.bytes ≡ data_in left.records order bytes
