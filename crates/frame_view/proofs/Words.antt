-- The sum of the words of some bytes, a word at a time, and the folds that make a ones' complement
-- sum of it.
use Rattle.std.proofs.Common.{◌≡◌, ℕ, ◌+◌, ◌-◌, ◌*◌, ◌/◌, ◌%◌, ◌^◌, ◌<◌, ◌≤◌, List, [], ◌∷◌, length, get_or, drop, arith, ap}
use Rattle.std.proofs.Common.{◌∙◌, refl, suc}
use Rattle.std.proofs.lemmas.List.{drop_more}
use Rattle.std.proofs.lemmas.Bool.Decides.{nat_tests}
use Rattle.frame_view.specs.Numbers.{u16_at}
use Rattle.frame_view.specs.InternetChecksum.{ones_sum, sum_of, checksum_of}

-- the sum of the words; an odd last byte has a zero after it
abbrev pub sum_of_words : List ℕ → ℕ
sum_of_words [] = 0
sum_of_words (high ∷ []) = high * 256
sum_of_words (high ∷ low ∷ rest) = high * 256 + low + sum_of_words rest

-- what is above 16 bits added to what is below
abbrev pub folded : ℕ → ℕ
folded sum = sum / 2 ^ 16 + sum % 2 ^ 16

-- each is a byte
abbrev pub AreBytes : List ℕ → Type 0
AreBytes [] = Unit {0}
AreBytes (byte ∷ rest) = (byte < 256) × AreBytes rest

pub bytes_of_each : (bytes : List ℕ) → ((k : ℕ) → get_or bytes k 0 < 256) → AreBytes bytes
bytes_of_each [] each = tt
bytes_of_each (byte ∷ rest) each = (each 0, bytes_of_each rest (λ k. each (suc k)))

-- two folds leave 16 bits of a sum below 2 ^ 32, and one more word is one more ones' complement sum
ones_sum-fold : (word sum : ℕ) → word < 2 ^ 16 → sum < 2 ^ 32 - 2 ^ 16
    → ones_sum word (folded (folded sum)) ≡ folded (folded (word + sum))
ones_sum-fold word sum small few = grind (arith, nat_tests)

pub record IsSummed (bytes : List ℕ) : Type 0 where
  pub few : sum_of_words bytes ≤ 65535 * length bytes
  pub sum : sum_of bytes ≡ folded (folded (sum_of_words bytes))

pub summed : (bytes : List ℕ) → AreBytes bytes → length bytes ≤ 65535 → IsSummed bytes
summed [] are few = record { few = omega arith; sum = refl }
summed (high ∷ []) are few = let a = are.0 in record { few = omega arith; sum = omega arith }
summed (high ∷ low ∷ rest) are few =
    let a = are.0 in let b = are.1.0 in
    let rested = summed rest are.1.1 (omega arith) in
    let fewer = rested.few in
    record {
      few = omega arith;
      sum = ap (ones_sum (high * 256 + low)) rested.sum
          ∙ ones_sum-fold (high * 256 + low) (sum_of_words rest) (omega arith) (omega arith);
    }

-- the checksum from the sum of the words
pub checksum_of-words : (bytes : List ℕ) → AreBytes bytes → length bytes ≤ 65535
    → checksum_of bytes ≡ 0xffff - folded (folded (sum_of_words bytes))
unfolding checksum_of
checksum_of-words bytes are few = ap (λ (n : ℕ). 0xffff - n) (summed bytes are few).sum

-- one more word from an even place
pub sum_of_words-drop : (bytes : List ℕ) (word : ℕ) → 2 * word + 1 < length bytes
    → sum_of_words (drop (2 * word) bytes) ≡ u16_at (2 * word) bytes + sum_of_words (drop (2 * (word + 1)) bytes)
sum_of_words-drop bytes word h =
    let first : drop (2 * word) bytes ≡ get_or bytes (2 * word) 0 ∷ drop (2 * word + 1) bytes =
    drop_more bytes (2 * word) 0 (omega arith) in
    let second : drop (2 * word + 1) bytes ≡ get_or bytes (2 * word + 1) 0 ∷ drop (2 * word + 1 + 1) bytes =
    drop_more bytes (2 * word + 1) 0 h in
    let next : 2 * word + 1 + 1 ≡ 2 * (word + 1) = omega arith in
    ap sum_of_words first ∙ ap (λ (rest : List ℕ). sum_of_words (get_or bytes (2 * word) 0 ∷ rest))
    (second ∙ ap (λ (n : ℕ). get_or bytes (2 * word + 1) 0 ∷ drop n bytes) next)

pub ruleset words = sum_of_words-drop
