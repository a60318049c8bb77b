-- The 32 bits of a key that begin at a place, out of the number of its first 40.
use Rattle.std.proofs.Common.{◌≡◌, ℕ, zero, suc, ◌+◌, ◌-◌, ◌*◌, ◌/◌, ◌%◌, ◌^◌, ◌<◌, ◌≤◌, List, [], ◌∷◌, ◌++◌, length, get_or}
use Rattle.std.proofs.Common.{take, drop, refl, subst, sym, ap, ◌∙◌, arith, length-append, length-drop}
use Rattle.std.proofs.lemmas.List.{take-append-drop, drop-take, take-take, length-take-le}
use Rattle.std.proofs.lemmas.Nat.{shr_high, mod_low, pow-add}
use Rattle.std.proofs.Math.Nat.{pow-suc}
use Rattle.flow_hash.specs.Toeplitz.{bits_of, bits_of_byte, number_of}
use Rattle.flow_hash.proofs.BitLists.{take-bits_of, length-bits_of}

-- each is 0 or 1
IsBits : List ℕ → Type 0
IsBits [] = Unit {0}
IsBits (bit ∷ rest) = (bit < 2) × IsBits rest

IsBits-bits_of : (xs : List ℕ) → IsBits (bits_of xs)
unfolding IsBits bits_of
IsBits-bits_of [] = tt
IsBits-bits_of (x ∷ xs) = (
  omega arith,
  (omega arith, (omega arith, (omega arith, (omega arith, (omega arith, (omega arith, (omega arith, IsBits-bits_of xs))))))),
)

IsBits-take : (n : ℕ) (xs : List ℕ) → IsBits xs → IsBits (take n xs)
unfolding IsBits
IsBits-take zero xs h = tt
IsBits-take (suc n) [] h = tt
IsBits-take (suc n) (x ∷ xs) h = (h.0, IsBits-take n xs h.1)

IsBits-drop : (n : ℕ) (xs : List ℕ) → IsBits xs → IsBits (drop n xs)
unfolding IsBits
IsBits-drop zero xs h = h
IsBits-drop (suc n) [] h = tt
IsBits-drop (suc n) (x ∷ xs) h = IsBits-drop n xs h.1

bit_more : (x r p : ℕ) → x < 2 → r < p → x * p + r < p * 2
bit_more zero r p h k = omega arith
bit_more (suc zero) r p h k = omega arith
bit_more (suc (suc x)) r p h k = absurd (omega arith)

number_of-lt : (xs : List ℕ) → IsBits xs → number_of xs < 2 ^ length xs
unfolding IsBits number_of
number_of-lt [] h = omega arith
number_of-lt (x ∷ xs) h = rw pow-suc (bit_more x (number_of xs) (2 ^ length xs) h.0 (number_of-lt xs h.1))

number_of-append : (xs ys : List ℕ) → number_of (xs ++ ys) ≡ number_of xs * 2 ^ length ys + number_of ys
unfolding number_of
number_of-append [] ys = omega arith
number_of-append (x ∷ xs) ys =
    let rest = number_of-append xs ys in
    let len : 2 ^ length (xs ++ ys) ≡ 2 ^ length xs * 2 ^ length ys =
    ap (λ (n : ℕ). 2 ^ n) (length-append xs ys) ∙ pow-add 2 (length xs) (length ys) in
    rw (len, rest) (omega arith)

-- some bits from a place on, with k after them
number_of_part : (j n k : ℕ) (xs : List ℕ) → IsBits xs → length xs ≡ j + (n + k)
    → number_of (take n (drop j xs)) ≡ number_of xs / 2 ^ k % 2 ^ n
number_of_part j n k xs h len =
    let front : List ℕ = take j xs in
    let part : List ℕ = take n (drop j xs) in
    let rest : List ℕ = drop n (drop j xs) in
    let after : length (drop j xs) ≡ n + k = length-drop j xs ∙ omega (arith, len) in
    let part_len : length part ≡ n = length-take-le n (drop j xs) (omega arith) in
    let rest_len : length rest ≡ k = length-drop n (drop j xs) ∙ omega (arith, after) in
    let all : number_of xs ≡ number_of front * 2 ^ (n + k) + number_of (drop j xs) =
    ap number_of (sym (take-append-drop j xs)) ∙ number_of-append front (drop j xs)
    ∙ ap (λ (m : ℕ). number_of front * 2 ^ m + number_of (drop j xs)) after in
    let some : number_of (drop j xs) ≡ number_of part * 2 ^ k + number_of rest =
    ap number_of (sym (take-append-drop n (drop j xs))) ∙ number_of-append part rest
    ∙ ap (λ (m : ℕ). number_of part * 2 ^ m + number_of rest) rest_len in
    let power : 2 ^ (n + k) ≡ 2 ^ n * 2 ^ k = pow-add 2 n k in
    let whole : number_of xs ≡ (number_of front * 2 ^ n + number_of part) * 2 ^ k + number_of rest =
    all ∙ rw (some, power) (omega arith) in
    let low : number_of rest < 2 ^ k =
    subst (λ (m : ℕ). number_of rest < 2 ^ m) rest_len
    (number_of-lt rest (IsBits-drop n (drop j xs) (IsBits-drop j xs h))) in
    let mid : number_of part < 2 ^ n =
    subst (λ (m : ℕ). number_of part < 2 ^ m) part_len
    (number_of-lt part (IsBits-take n (drop j xs) (IsBits-drop j xs h))) in
    sym (ap (λ (m : ℕ). m / 2 ^ k % 2 ^ n) whole
    ∙ ap (λ (m : ℕ). m % 2 ^ n) (shr_high (number_of front * 2 ^ n + number_of part) k (number_of rest) low)
    ∙ mod_low (number_of front) n (number_of part) mid)

number_of_byte : (byte : ℕ) → byte < 256 → number_of (bits_of_byte byte) ≡ byte
unfolding number_of
number_of_byte byte h = omega arith

number_of_more : (byte : ℕ) (rest : List ℕ) → byte < 256
    → number_of (bits_of (byte ∷ rest)) ≡ byte * 2 ^ (8 * length rest) + number_of (bits_of rest)
unfolding bits_of
number_of_more byte rest h =
    number_of-append (bits_of_byte byte) (bits_of rest)
    ∙ ap (λ (n : ℕ). n * 2 ^ length (bits_of rest) + number_of (bits_of rest)) (number_of_byte byte h)
    ∙ ap (λ (n : ℕ). byte * 2 ^ n + number_of (bits_of rest)) (length-bits_of rest)

nothing : number_of (bits_of []) ≡ 0
unfolding bits_of number_of
nothing = refl

pub number_of_five : (a b c d e : ℕ) → a < 256 → b < 256 → c < 256 → d < 256 → e < 256
    → number_of (bits_of (a ∷ b ∷ c ∷ d ∷ e ∷ [])) ≡ a * 2 ^ 32 + (b * 2 ^ 24 + (c * 2 ^ 16 + (d * 256 + e)))
number_of_five a b c d e ha hb hc hd he =
    let na = number_of_more a (b ∷ c ∷ d ∷ e ∷ []) ha in
    let nb = number_of_more b (c ∷ d ∷ e ∷ []) hb in
    let nc = number_of_more c (d ∷ e ∷ []) hc in
    let nd = number_of_more d (e ∷ []) hd in
    let ne = number_of_more e [] he in
    let none = nothing in
    omega arith

pub take_five : (key : List ℕ) → 5 ≤ length key → take 5 key ≡ get_or key 0 0 ∷ get_or key 1 0 ∷ get_or key 2 0 ∷ get_or key 3 0
    ∷ get_or key 4 0 ∷ []
take_five (a ∷ b ∷ c ∷ d ∷ e ∷ rest) h = refl
take_five key h = absurd (omega arith)

-- what a bit at a place of a byte is combined with
pub window_of : (key : List ℕ) (j : ℕ) → 5 ≤ length key → j < 8
    → number_of (take 32 (drop j (bits_of key))) ≡ number_of (bits_of (take 5 key)) / 2 ^ (8 - j) % 2 ^ 32
window_of key j long small =
    let bits : List ℕ = bits_of key in
    let window : take 40 bits ≡ bits_of (take 5 key) = take-bits_of 5 key in
    let len : length (take 40 bits) ≡ 40 = length-take-le 40 bits (omega (arith, length-bits_of key)) in
    let split : j + (40 - j) ≡ 40 = omega arith in
    let inside : drop j (take 40 bits) ≡ take (40 - j) (drop j bits) =
    ap (λ (n : ℕ). drop j (take n bits)) (sym split) ∙ drop-take j (40 - j) bits in
    let same : take 32 (drop j (take 40 bits)) ≡ take 32 (drop j bits) =
    ap (take 32) inside ∙ take-take 32 (40 - j) (drop j bits) (omega arith) in
    let fits : length (take 40 bits) ≡ j + (32 + (8 - j)) = len ∙ omega arith in
    ap number_of (sym same) ∙ number_of_part j 32 (8 - j) (take 40 bits) (IsBits-take 40 bits (IsBits-bits_of key)) fits
    ∙ ap (λ (b : List ℕ). number_of b / 2 ^ (8 - j) % 2 ^ 32) window
