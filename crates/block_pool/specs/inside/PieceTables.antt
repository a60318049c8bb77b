-- The pieces of members, put into the places of their numbers.
use Rattle.std.specs.Prelude.{ℕ, ◌-◌, ◌<◌, ◌≤◌, List, [], ◌∷◌, ◌++◌, length, map, replicate}
use Rattle.std.specs.Prelude.{slice_index, slice_index_or, slice_set, Option, None, Some, IsSome}
use Rattle.std.specs.List.{AllByRecursion}
use Rattle.block_pool.specs.declared.pieces.DecodedPiece.{DecodedPiece}
use Rattle.frame_view.specs.declared.frames.Packet.{Packet}
use Rattle.reader_walk.specs.declared.outputs.Outputs.{Outputs}

-- empty places for n pieces
abbrev pub empty_table : ℕ → List (Option DecodedPiece)
empty_table count = replicate count None

-- how many places there are for each member
abbrev pub counts_of : List (List (Option DecodedPiece)) → List ℕ
counts_of tables = map (λ table. length table) tables

-- there is a place for the piece
pub record HasPlaceIn (counts : List ℕ) (piece : DecodedPiece) : Type 0 where
  pub member : piece.member < length counts
  pub number : 0 < piece.number
  pub within : piece.number ≤ slice_index counts piece.member

-- the table of its member, and all tables, with the piece at the place of its number
abbrev pub table_with : DecodedPiece → List (Option DecodedPiece) → List (Option DecodedPiece)
table_with piece table = slice_set table (piece.number - 1) (Some piece)

abbrev pub put_one : List (List (Option DecodedPiece)) → DecodedPiece
    → List (List (Option DecodedPiece))
put_one tables piece =
    slice_set tables piece.member (table_with piece (slice_index_or tables piece.member []))

-- all tables after pieces were put, one after another
abbrev pub put_each : List (List (Option DecodedPiece)) → List DecodedPiece
    → List (List (Option DecodedPiece))
put_each tables [] = tables
put_each tables (piece ∷ pieces) = put_each (put_one tables piece) pieces

-- the packets of the pieces at places, and their texts, one after another
abbrev pub packets_at : List (Option DecodedPiece) → List Packet
packets_at [] = []
packets_at (None ∷ places) = packets_at places
packets_at (Some piece ∷ places) = piece.packets ++ packets_at places

abbrev pub texts_at : List (Option DecodedPiece) → List ℕ
texts_at [] = []
texts_at (None ∷ places) = texts_at places
texts_at (Some piece ∷ places) = piece.text ++ texts_at places

-- each place of the table has a piece, and so each place of all tables
abbrev pub IsFull : List (Option DecodedPiece) → Type 0
IsFull table = AllByRecursion (λ place. IsSome place) table

abbrev pub AreFull : List (List (Option DecodedPiece)) → Type 0
AreFull tables = AllByRecursion IsFull tables

-- what is read out of a full table
abbrev pub read_of : List (Option DecodedPiece) → Outputs
read_of table = record { walked = packets_at table; dump = texts_at table; blocks = length table }
