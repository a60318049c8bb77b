-- A table and the bytes that have its numbers.
use Rattle.std.proofs.Common.{◌≡◌, ℕ, zero, suc, ◌+◌, ◌^◌, ◌≤◌, ◌<◌, List, [], ◌∷◌, ◌++◌, length, take, drop, refl, sym, ap}
use Rattle.std.proofs.Common.{◌∙◌, arith, append_assoc}
use Rattle.std.specs.Prelude.{◌==◌, ◌&&◌, None}
use Rattle.std.proofs.Math.Seq.{take-add}
use Rattle.std.proofs.lemmas.Bool.{eqb-true, and_parts}
use Rattle.std.proofs.lemmas.List.{length-drop, drop-drop, drop_at}
use Rattle.byteorder.specs.Endian.{little_bytes}
use Rattle.byteorder.specs.Numbers.{little_number-reads_back, length-bytes_low_first}
use Rattle.tp_layout.specs.Rows.{Row, zeros, number_at, bytes_of, size_of_rows, first_fault}
use Rattle.tp_layout.proofs.Bytes.{IsBytes, bytes-drop, spelled, number_one}
use Rattle.tp_layout.proofs.Chains.{zeros_step}
use Rattle.tp_layout.proofs.Walks.{unless_none}
use Rattle.tp_layout.proofs.Puts.{length-bytes_of}

-- the bytes from a place on have the numbers of a table
abbrev pub AllRead : ℕ → List Row → List ℕ → Type 0
AllRead from [] bytes = Unit {0}
AllRead from (r ∷ rows) bytes = (number_at r.size from bytes ≡ r.value) × AllRead (from + r.size) rows bytes

-- the numbers of a table fit their bytes
abbrev pub AllFit : List Row → Type 0
AllFit [] = Unit {0}
AllFit (r ∷ rows) = (r.value < 256 ^ r.size) × AllFit rows

-- bytes that have the numbers of a table are its bytes
pub bytes_read : (from : ℕ) (rows : List Row) (bytes : List ℕ) → IsBytes bytes → from + size_of_rows rows ≤ length bytes
    → AllRead from rows bytes
    → take (size_of_rows rows) (drop from bytes) ≡ bytes_of rows
unfolding bytes_of number_at
bytes_read from [] bytes h fits all = refl
bytes_read from (r ∷ rows) bytes h fits all =
    let rest = bytes_read (from + r.size) rows bytes h (omega (arith, fits)) all.1 in
    let one : take r.size (drop from bytes) ≡ little_bytes r.size r.value =
    sym (spelled r.size (drop from bytes) (bytes-drop from bytes h) (omega (arith, fits, length-drop from bytes)))
    ∙ ap (little_bytes r.size) all.0 in
    take-add r.size (size_of_rows rows) (drop from bytes) ∙ rw (one, drop-drop r.size from bytes, rest) refl

-- the bytes of a table have its numbers
pub read_bytes : (from : ℕ) (rows : List Row) (bytes rest : List ℕ) → AllFit rows → drop from bytes ≡ bytes_of rows ++ rest
    → AllRead from rows bytes
unfolding bytes_of number_at
read_bytes from [] bytes rest fit e = tt
read_bytes from (r ∷ rows) bytes rest fit e =
    let grouped : drop from bytes ≡ little_bytes r.size r.value ++ (bytes_of rows ++ rest) =
    e ∙ append_assoc (little_bytes r.size r.value) (bytes_of rows) rest in
    let more : drop (from + r.size) bytes ≡ bytes_of rows ++ rest =
    sym (drop-drop r.size from bytes) ∙ ap (drop r.size) grouped
    ∙ drop_at (little_bytes r.size r.value) (bytes_of rows ++ rest) r.size (length-bytes_low_first 0 r.size r.value) in (
      rw grouped (little_number-reads_back r.size r.value (bytes_of rows ++ rest) fit.0),
      read_bytes (from + r.size) rows bytes rest fit.1 more,
    )

-- zeros that passed their tests
pub zeros_read : (base at n : ℕ) (bytes : List ℕ) → first_fault base at (zeros at n) bytes ≡ None
    → AllRead at (zeros at n) bytes
zeros_read base at zero bytes e = tt
zeros_read base at (suc n) bytes e =
    let both = unless_none _ _ _ _ (sym (zeros_step base at n bytes) ∙ e) in
    (number_one at bytes ∙ eqb-true _ _ both.0, zeros_read base (at + 1) n bytes both.1)

-- zeros pass their tests
pub zeros_passed : (base at n : ℕ) (bytes : List ℕ) → AllRead at (zeros at n) bytes
    → first_fault base at (zeros at n) bytes ≡ None
unfolding first_fault
zeros_passed base at zero bytes all = refl
zeros_passed base at (suc n) bytes all = rw (all.0, zeros_passed base (at + 1) n bytes all.1) refl

pub zeros_fit : (at n : ℕ) → AllFit (zeros at n)
zeros_fit at zero = tt
zeros_fit at (suc n) = (omega arith, zeros_fit (at + 1) n)

pub size_of_zeros : (at n : ℕ) → size_of_rows (zeros at n) ≡ n
size_of_zeros at zero = refl
size_of_zeros at (suc n) = let rest = size_of_zeros (at + 1) n in omega arith

-- what follows the bytes of a table
pub behind : (from : ℕ) (rows : List Row) (bytes rest : List ℕ) → drop from bytes ≡ bytes_of rows ++ rest
    → drop (from + size_of_rows rows) bytes ≡ rest
behind from rows bytes rest e =
    sym (drop-drop (size_of_rows rows) from bytes) ∙ ap (drop (size_of_rows rows)) e
    ∙ drop_at (bytes_of rows) rest (size_of_rows rows) (length-bytes_of rows)

-- a table that passed its tests
pub rows_read : (base from : ℕ) (rows : List Row) (bytes : List ℕ) → first_fault base from rows bytes ≡ None
    → AllRead from rows bytes
unfolding first_fault
rows_read base from [] bytes e = tt
rows_read base from (r ∷ rows) bytes e =
    let both = unless_none ((number_at r.size from bytes == r.value) && r.may) r.kind (base + r.at) _ e in (
      eqb-true _ _ (and_parts (number_at r.size from bytes == r.value) r.may both.0).0,
      rows_read base (from + r.size) rows bytes both.1,
    )
