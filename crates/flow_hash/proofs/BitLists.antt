-- Lists of bits and the hash, a piece at a time.
use Rattle.std.proofs.Common.{Bool, true, false, length-append, ◌≡◌, ℕ, zero, suc, ◌+◌, ◌*◌, List, [], ◌∷◌, ◌++◌, length}
use Rattle.std.proofs.Common.{get_or, take, drop, ◌-◌, ◌<◌, refl, sym, ap, ◌∙◌, arith}
use Rattle.std.proofs.lemmas.List.{drop-drop, length-take-le, take_more}
use Rattle.std.specs.Int.Bits.{bit_xor, xor_assoc, xor_zero_l, xor_zero_r}
use Rattle.std.specs.Int.{bit_at}
use Rattle.flow_hash.specs.FlowHash.{ordered}
use Rattle.flow_hash.specs.Toeplitz.{bits_of, bits_of_byte, toeplitz_of, share_of, hash_of}

-- the hash of two lists of bits: the key of the second begins where the first ends
pub toeplitz_of-append : (key xs ys : List ℕ) → toeplitz_of key (xs ++ ys)
    ≡ bit_xor (toeplitz_of key xs) (toeplitz_of (drop (length xs) key) ys)
unfolding toeplitz_of
toeplitz_of-append key [] ys = sym (xor_zero_l (toeplitz_of key ys))
toeplitz_of-append key (x ∷ xs) ys =
    let next : 1 + length xs ≡ suc (length xs) = omega arith in
    ap (bit_xor (share_of key x)) (toeplitz_of-append (drop 1 key) xs ys)
    ∙ sym (xor_assoc (share_of key x) (toeplitz_of (drop 1 key) xs) (toeplitz_of (drop (length xs) (drop 1 key)) ys))
    ∙ ap (λ (rest : List ℕ). bit_xor (bit_xor (share_of key x) (toeplitz_of (drop 1 key) xs)) (toeplitz_of rest ys))
    (drop-drop (length xs) 1 key ∙ ap (λ (n : ℕ). drop n key) next)

pub bits_of-append : (xs ys : List ℕ) → bits_of (xs ++ ys) ≡ bits_of xs ++ bits_of ys
unfolding bits_of
bits_of-append [] ys = refl
bits_of-append (x ∷ xs) ys = ap (λ (rest : List ℕ). bits_of_byte x ++ rest) (bits_of-append xs ys)

pub length-bits_of : (xs : List ℕ) → length (bits_of xs) ≡ 8 * length xs
unfolding bits_of
length-bits_of [] = refl
length-bits_of (x ∷ xs) = let more = length-bits_of xs in omega arith

eight_more : (n : ℕ) → 8 * suc n ≡ suc (suc (suc (suc (suc (suc (suc (suc (8 * n))))))))
eight_more n = omega arith

pub drop-bits_of : (n : ℕ) (xs : List ℕ) → drop (8 * n) (bits_of xs) ≡ bits_of (drop n xs)
unfolding bits_of
drop-bits_of zero xs = refl
drop-bits_of (suc n) [] = rw eight_more refl
drop-bits_of (suc n) (x ∷ xs) = rw eight_more (drop-bits_of n xs)

pub take-bits_of : (n : ℕ) (xs : List ℕ) → take (8 * n) (bits_of xs) ≡ bits_of (take n xs)
unfolding bits_of
take-bits_of zero xs = refl
take-bits_of (suc n) [] = rw eight_more refl
take-bits_of (suc n) (x ∷ xs) = rw eight_more (ap (λ (rest : List ℕ). bits_of_byte x ++ rest) (take-bits_of n xs))

-- the same for bytes
pub hash_of-append : (key xs ys : List ℕ) → hash_of key (xs ++ ys)
    ≡ bit_xor (hash_of key xs) (hash_of (drop (length xs) key) ys)
hash_of-append key xs ys =
    ap (toeplitz_of (bits_of key)) (bits_of-append xs ys) ∙ toeplitz_of-append (bits_of key) (bits_of xs) (bits_of ys)
    ∙ ap (λ (rest : List ℕ). bit_xor (hash_of key xs) (toeplitz_of rest (bits_of ys)))
    (ap (λ (n : ℕ). drop n (bits_of key)) (length-bits_of xs) ∙ drop-bits_of (length xs) key)

-- one byte
pub hash_of_byte : (key : List ℕ) (byte : ℕ) → hash_of key (byte ∷ []) ≡ toeplitz_of (bits_of key) (bits_of_byte byte)
unfolding bits_of
hash_of_byte key byte = refl

-- nothing
pub hash_of_nothing : (key : List ℕ) → hash_of key [] ≡ 0
unfolding bits_of toeplitz_of
hash_of_nothing key = refl

-- the bits of a byte are counted from the left
bits_of_byte-at : (byte bit : ℕ) → bit < 8 → get_or (bits_of_byte byte) bit 0 ≡ bit_at byte (7 - bit)
bits_of_byte-at byte zero h = refl
bits_of_byte-at byte (suc zero) h = refl
bits_of_byte-at byte (suc (suc zero)) h = refl
bits_of_byte-at byte (suc (suc (suc zero))) h = refl
bits_of_byte-at byte (suc (suc (suc (suc zero)))) h = refl
bits_of_byte-at byte (suc (suc (suc (suc (suc zero))))) h = refl
bits_of_byte-at byte (suc (suc (suc (suc (suc (suc zero)))))) h = refl
bits_of_byte-at byte (suc (suc (suc (suc (suc (suc (suc zero))))))) h = refl
bits_of_byte-at byte (suc (suc (suc (suc (suc (suc (suc (suc more)))))))) h = absurd (omega arith)

-- one more bit of a byte
pub toeplitz_of-bit : (key : List ℕ) (byte bit : ℕ) → bit < 8
    → toeplitz_of key (take (bit + 1) (bits_of_byte byte))
    ≡ bit_xor (toeplitz_of key (take bit (bits_of_byte byte))) (share_of (drop bit key) (bit_at byte (7 - bit)))
unfolding toeplitz_of
toeplitz_of-bit key byte bit h =
    let bits : List ℕ = bits_of_byte byte in
    let more : take (bit + 1) bits ≡ take bit bits ++ get_or bits bit 0 ∷ [] = take_more bits bit 0 h in
    ap (toeplitz_of key) (more ∙ ap (λ (b : ℕ). take bit bits ++ b ∷ []) (bits_of_byte-at byte bit h))
    ∙ toeplitz_of-append key (take bit bits) (bit_at byte (7 - bit) ∷ [])
    ∙ ap (λ (n : ℕ). bit_xor (toeplitz_of key (take bit bits)) (bit_xor (share_of (drop n key) (bit_at byte (7 - bit))) 0))
    (length-take-le bit bits (omega arith))
    ∙ ap (bit_xor (toeplitz_of key (take bit bits))) (xor_zero_r (share_of (drop bit key) (bit_at byte (7 - bit))))

-- one more byte
pub hash_of-byte : (key input : List ℕ) (place : ℕ) → place < length input
    → hash_of key (take (place + 1) input) ≡ bit_xor (hash_of key (take place input))
    (toeplitz_of (bits_of (drop place key)) (bits_of_byte (get_or input place 0)))
hash_of-byte key input place h =
    ap (hash_of key) (take_more input place 0 h) ∙ hash_of-append key (take place input) (get_or input place 0 ∷ [])
    ∙ ap (λ (n : ℕ). bit_xor (hash_of key (take place input)) (hash_of (drop n key) (get_or input place 0 ∷ [])))
    (length-take-le place input (omega arith))
    ∙ ap (bit_xor (hash_of key (take place input))) (hash_of_byte (drop place key) (get_or input place 0))

-- ---- the same, with the key from a place on

pub hash_of-both : (key a b : List ℕ) (at : ℕ) → hash_of (drop at key) (a ++ b)
    ≡ bit_xor (hash_of (drop at key) a) (hash_of (drop (at + length a) key) b)
hash_of-both key a b at =
    let both = hash_of-append (drop at key) a b in
    let rest = drop-drop (length a) at key in
    cc

pub hash_of-place : (key input : List ℕ) (at place : ℕ) → place < length input
    → hash_of (drop at key) (take (place + 1) input)
    ≡ bit_xor (hash_of (drop at key) (take place input))
    (toeplitz_of (bits_of (drop (at + place) key)) (bits_of_byte (get_or input place 0)))
hash_of-place key input at place h =
    let more = hash_of-byte (drop at key) input place h in
    let rest = drop-drop place at key in
    cc

length-ordered : (first : Bool) (a b : List ℕ) → length (ordered first a b) ≡ length a + length b
length-ordered true a b = length-append a b
length-ordered false a b = length-append b a ∙ omega arith

pub hash_of-ordered : (key a b rest : List ℕ) (first : Bool)
    → hash_of key (ordered first a b ++ rest) ≡ bit_xor (hash_of key (ordered first a b))
    (hash_of (drop (length a + length b) key) rest)
hash_of-ordered key a b rest first =
    let both = hash_of-append key (ordered first a b) rest in
    let len = length-ordered first a b in
    cc

pub ruleset pieces = (hash_of_nothing, hash_of-both, hash_of-place, hash_of-ordered)
