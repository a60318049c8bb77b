-- A byte adds what its two halves add, and the table has what each adds.
use Rattle.std.proofs.Common.{◌≡◌, ℕ, ◌+◌, ◌*◌, ◌/◌, ◌%◌, ◌<◌, List, [], ◌∷◌, ◌++◌, length, get_or, drop, refl, ap, ◌∙◌, arith}
use Rattle.std.proofs.lemmas.List.FromFn.{length-map-range_with_len, get_or-map-range_with_len, map-range_with_len_more}
use Rattle.std.proofs.lemmas.Bool.Decides.{nat_tests}
use Rattle.std.specs.Int.{bit_at}
use Rattle.std.specs.Int.Bits.{bit_xor, xor_zero_l, xor_zero_r}
use Rattle.flow_hash.specs.Toeplitz.{toeplitz_of, bits_of, bits_of_byte}
use Rattle.flow_hash.specs.inside.KeyTable.{entry_of, entries_of, table_of, half_byte}
use Rattle.flow_hash.proofs.BitLists.{toeplitz_of-append}

-- four bits, none of which is set
four_zeros : List ℕ
four_zeros = 0 ∷ 0 ∷ 0 ∷ 0 ∷ []

nothing_of_zeros : (key : List ℕ) → toeplitz_of key four_zeros ≡ 0
unfolding toeplitz_of four_zeros
nothing_of_zeros key = refl

-- the bits of a byte's halves
upper_half : ℕ → List ℕ
upper_half byte = bit_at byte 7 ∷ bit_at byte 6 ∷ bit_at byte 5 ∷ bit_at byte 4 ∷ []

lower_half : ℕ → List ℕ
lower_half byte = bit_at byte 3 ∷ bit_at byte 2 ∷ bit_at byte 1 ∷ bit_at byte 0 ∷ []

-- a half alone, as a byte
bits_of_upper : (byte : ℕ) → bits_of_byte (byte / 16 * 16) ≡ upper_half byte ++ four_zeros
unfolding upper_half four_zeros
bits_of_upper byte =
    let a : byte / 16 * 16 / 128 % 2 ≡ byte / 128 % 2 = omega arith in
    let b : byte / 16 * 16 / 64 % 2 ≡ byte / 64 % 2 = omega arith in
    let c : byte / 16 * 16 / 32 % 2 ≡ byte / 32 % 2 = omega arith in
    let d : byte / 16 * 16 / 16 % 2 ≡ byte / 16 % 2 = omega arith in
    let e : byte / 16 * 16 / 8 % 2 ≡ 0 = omega arith in
    let f : byte / 16 * 16 / 4 % 2 ≡ 0 = omega arith in
    let g : byte / 16 * 16 / 2 % 2 ≡ 0 = omega arith in
    let h : byte / 16 * 16 / 1 % 2 ≡ 0 = omega arith in
    rw (a, b, c, d, e, f, g, h) refl

bits_of_lower : (byte : ℕ) → bits_of_byte (byte % 16) ≡ four_zeros ++ lower_half byte
unfolding lower_half four_zeros
bits_of_lower byte =
    let a : byte % 16 / 128 % 2 ≡ 0 = omega arith in
    let b : byte % 16 / 64 % 2 ≡ 0 = omega arith in
    let c : byte % 16 / 32 % 2 ≡ 0 = omega arith in
    let d : byte % 16 / 16 % 2 ≡ 0 = omega arith in
    let e : byte % 16 / 8 % 2 ≡ byte / 8 % 2 = omega arith in
    let f : byte % 16 / 4 % 2 ≡ byte / 4 % 2 = omega arith in
    let g : byte % 16 / 2 % 2 ≡ byte / 2 % 2 = omega arith in
    let h : byte % 16 / 1 % 2 ≡ byte / 1 % 2 = omega arith in
    rw (a, b, c, d, e, f, g, h) refl

halves_of_bits : (byte : ℕ) → bits_of_byte byte ≡ upper_half byte ++ lower_half byte
unfolding upper_half lower_half
halves_of_bits byte = refl

-- a byte adds what its upper and its lower half add
byte_by_halves : (key : List ℕ) (byte : ℕ) → toeplitz_of key (bits_of_byte byte)
    ≡ bit_xor (toeplitz_of key (bits_of_byte (byte / 16 * 16))) (toeplitz_of key (bits_of_byte (byte % 16)))
unfolding upper_half lower_half four_zeros
byte_by_halves key byte =
    let upper = ap (toeplitz_of key) (bits_of_upper byte) ∙ toeplitz_of-append key (upper_half byte) four_zeros in
    let lower = ap (toeplitz_of key) (bits_of_lower byte) ∙ toeplitz_of-append key four_zeros (lower_half byte) in
    let both = ap (toeplitz_of key) (halves_of_bits byte) ∙ toeplitz_of-append key (upper_half byte) (lower_half byte) in
    let none = nothing_of_zeros (drop 4 key) in
    let first = nothing_of_zeros key in
    let right = xor_zero_r (toeplitz_of key (upper_half byte)) in
    let left = xor_zero_l (toeplitz_of (drop 4 key) (lower_half byte)) in
    cc

-- ---- the entries

pub no_entries : (key : List ℕ) → entries_of key 0 ≡ []
unfolding entries_of
no_entries key = refl

pub one_more_entry : (key : List ℕ) (count : ℕ) → entries_of key (count + 1) ≡ entries_of key count ++ entry_of key count ∷ []
unfolding entries_of
one_more_entry key count = map-range_with_len_more (entry_of key) 0 count count (omega arith)

pub length-entries_of : (key : List ℕ) (count : ℕ) → length (entries_of key count) ≡ count
unfolding entries_of
length-entries_of key count = length-map-range_with_len (entry_of key) 0 count

get_or-entries_of : (key : List ℕ) (count entry default : ℕ) → entry < count
    → get_or (entries_of key count) entry default ≡ entry_of key entry
unfolding entries_of
get_or-entries_of key count entry default h =
    get_or-map-range_with_len (entry_of key) 0 count entry entry default h (omega arith)

pub ruleset entries = (no_entries, one_more_entry, length-entries_of)

-- ---- what a byte adds, out of the table

entry_of_upper : (key : List ℕ) (place half : ℕ) → half < 16
    → entry_of key (32 * place + half) ≡ toeplitz_of (bits_of (drop place key)) (bits_of_byte (half * 16))
unfolding entry_of
entry_of_upper key place half h =
    let row : (32 * place + half) / 32 ≡ place = omega arith in
    let column : (32 * place + half) % 32 ≡ half = omega arith in
    let byte : half_byte half ≡ half * 16 = grind (arith, nat_tests) in
    rw (row, column, byte) refl

entry_of_lower : (key : List ℕ) (place half : ℕ) → half < 16
    → entry_of key (32 * place + 16 + half) ≡ toeplitz_of (bits_of (drop place key)) (bits_of_byte half)
unfolding entry_of
entry_of_lower key place half h =
    let row : (32 * place + 16 + half) / 32 ≡ place = omega arith in
    let column : (32 * place + 16 + half) % 32 ≡ half + 16 = omega arith in
    let byte : half_byte (half + 16) ≡ half = grind (arith, nat_tests) in
    rw (row, column, byte) refl

pub share_by_table : (key table : List ℕ) (place byte upper lower : ℕ) → table ≡ table_of key → place < 36 → byte < 256
    → upper ≡ get_or table (32 * place + byte / 16) upper → lower ≡ get_or table (32 * place + 16 + byte % 16) lower
    → bit_xor upper lower ≡ toeplitz_of (bits_of (drop place key)) (bits_of_byte byte)
share_by_table key table place byte upper lower made near small is_upper is_lower =
    let high = get_or-entries_of key 1152 (32 * place + byte / 16) upper (omega arith) in
    let low = get_or-entries_of key 1152 (32 * place + 16 + byte % 16) lower (omega arith) in
    let first = entry_of_upper key place (byte / 16) (omega arith) in
    let second = entry_of_lower key place (byte % 16) (omega arith) in
    let both = byte_by_halves (bits_of (drop place key)) byte in
    cc

pub ruleset halves = (length-entries_of, share_by_table)
