-- Numbers at a place of bytes, and the bytes of numbers.
use Rattle.std.proofs.Common.{◌≡◌, ℕ, zero, suc, ◌+◌, ◌*◌, ◌/◌, ◌%◌, ◌^◌, ◌≤◌, ◌<◌, List, [], ◌∷◌, ◌++◌, length, get_or, take}
use Rattle.std.proofs.Common.{drop, refl, sym, ap, ◌∙◌, inl, inr, arith}
use Rattle.std.specs.Prelude.{slice_index, All}
use Rattle.std.specs.Int.{byte_at, bytes_low_first}
use Rattle.std.proofs.lemmas.Bool.{cases_lt}
use Rattle.std.proofs.lemmas.List.{get_or-drop, get_or-take, get_or_past, get_or_default, length-drop, length-take}
use Rattle.std.proofs.Math.Nat.{div-div-eq-div-mul, pow-succ'}
use Rattle.byteorder.specs.Endian.{little_number, little_bytes, big_bytes}
use Rattle.byteorder.specs.Numbers.{little_from-cons, little_from-lt}
use Rattle.frame_view.specs.Headers.{address_of}
use Rattle.tp_layout.specs.Rows.{number_at, network_at}

-- each byte is one
abbrev pub IsBytes : List ℕ → Type 0
IsBytes bytes = (i : ℕ) → get_or bytes i 0 < 256

pub bytes-drop : (n : ℕ) (bytes : List ℕ) → IsBytes bytes → IsBytes (drop n bytes)
bytes-drop n bytes h i = rw get_or-drop (h (n + i))

pub bytes-take : (n : ℕ) (bytes : List ℕ) → IsBytes bytes → IsBytes (take n bytes)
bytes-take n bytes h i =
    elim (cases_lt i n) [
      | inl less ↦ rw (get_or-take n bytes i 0 less) (h i)
      | inr past ↦ rw (get_or_past (take n bytes) i 0 (omega (arith, length-take n bytes))) (omega arith)
    ]

pub add-zero : (n : ℕ) → n + 0 ≡ n
add-zero n = omega arith

-- one byte is its number
pub number_one : (at : ℕ) (bytes : List ℕ) → number_at 1 at bytes ≡ slice_index bytes at
unfolding number_at
number_one at bytes =
    let place : get_or (drop at bytes) 0 0 ≡ slice_index bytes at =
    get_or-drop at bytes 0 0 ∙ ap (λ k. get_or bytes k 0) (add-zero at) in
    rw place (omega arith)

-- two bytes in network order
pub network_two : (at : ℕ) (bytes : List ℕ) → network_at 2 at bytes ≡ slice_index bytes at * 256 + slice_index bytes (at + 1)
unfolding network_at
network_two at bytes =
    let high : get_or (drop at bytes) 0 0 ≡ slice_index bytes at =
    get_or-drop at bytes 0 0 ∙ ap (λ k. get_or bytes k 0) (add-zero at) in
    let low : get_or (drop at bytes) 1 0 ≡ slice_index bytes (at + 1) = get_or-drop at bytes 1 0 in
    rw (high, low) (omega arith)

-- a number fits its bytes
pub number_fits : (n at : ℕ) (bytes : List ℕ) → IsBytes bytes → number_at n at bytes < 256 ^ n
unfolding number_at
number_fits n at bytes h = little_from-lt 0 n (drop at bytes) (λ k. rw get_or-drop (h (at + k)))

-- a byte of a number is a byte of its upper part
byte_shift : (j a v : ℕ) → a < 256 → byte_at (suc j) (a + 256 * v) ≡ byte_at j v
byte_shift zero a v h = omega arith
byte_shift (suc j) a v h =
    let split : (a + 256 * v) / 256 ^ suc (suc j) ≡ (a + 256 * v) / 256 / 256 ^ suc j =
    ap (λ (p : ℕ). (a + 256 * v) / p) (pow-succ' 256 (suc j)) ∙ sym (div-div-eq-div-mul (a + 256 * v) 256 (256 ^ suc j)) in
    let top : (a + 256 * v) / 256 ≡ v = omega arith in
    ap (λ (x : ℕ). x % 256) (split ∙ ap (λ (x : ℕ). x / 256 ^ suc j) top)

bytes_shift : (j k a v : ℕ) → a < 256 → bytes_low_first (suc j) k (a + 256 * v) ≡ bytes_low_first j k v
bytes_shift j zero a v h = refl
bytes_shift j (suc k) a v h = rw (byte_shift j a v h, bytes_shift (suc j) k a v h) refl

-- the bytes of the number that bytes make
pub spelled : (n : ℕ) (bytes : List ℕ) → IsBytes bytes → n ≤ length bytes
    → little_bytes n (little_number n bytes) ≡ take n bytes
spelled zero bytes h fits = refl
spelled (suc n) [] h fits = absurd (omega arith)
spelled (suc n) (byte ∷ bytes) h fits =
    let low = h 0 in
    let rest = little_number n bytes in
    let value : little_number (suc n) (byte ∷ bytes) ≡ byte + 256 * rest =
    ap (λ (r : ℕ). byte + 256 * r) (little_from-cons 0 n byte bytes) in
    let back = spelled n bytes (λ i. h (suc i)) (omega arith) in
    let first : (byte + 256 * rest) % 256 ≡ byte = omega arith in
    rw (value, first, bytes_shift 0 n byte rest low, back) refl

-- two bytes in network order, each as a number
pub network_bytes : (n : ℕ) → big_bytes 2 n ≡ little_bytes 1 (n / 256) ++ little_bytes 1 (n % 256)
network_bytes n =
    let high : n / 256 ^ 1 % 256 ≡ n / 256 % 256 = omega arith in
    let low : n % 256 ≡ n % 256 % 256 = omega arith in
    rw high (ap (λ (x : ℕ). n / 256 % 256 ∷ x ∷ []) low)

pub one_byte : (n : ℕ) → n < 256 → n % 256 ≡ n
one_byte n small = omega arith

-- six bytes, one by one
pub six_bytes : (bytes : List ℕ) → length bytes ≡ 6 → bytes ≡ address_of 0 bytes
six_bytes [] six = absurd (omega arith)
six_bytes (a ∷ []) six = absurd (omega arith)
six_bytes (a ∷ b ∷ []) six = absurd (omega arith)
six_bytes (a ∷ b ∷ c ∷ []) six = absurd (omega arith)
six_bytes (a ∷ b ∷ c ∷ d ∷ []) six = absurd (omega arith)
six_bytes (a ∷ b ∷ c ∷ d ∷ e ∷ []) six = absurd (omega arith)
six_bytes (a ∷ b ∷ c ∷ d ∷ e ∷ f ∷ []) six = refl
six_bytes (a ∷ b ∷ c ∷ d ∷ e ∷ f ∷ g ∷ bytes) six = absurd (omega arith)

-- the six bytes from a place, one by one
pub six_from : (at : ℕ) (bytes : List ℕ) → at + 6 ≤ length bytes → take 6 (drop at bytes) ≡ address_of at bytes
six_from at bytes within =
    let part = take 6 (drop at bytes) in
    let byte : (i : ℕ) → i < 6 → slice_index part i ≡ slice_index bytes (at + i) =
    λ i less. get_or-take 6 (drop at bytes) i 0 less ∙ get_or-drop at bytes i 0 in
    let zero_is : slice_index part 0 ≡ slice_index bytes at =
    byte 0 (omega arith) ∙ ap (λ (k : ℕ). slice_index bytes k) (add-zero at) in
    six_bytes part (omega (arith, length-take 6 (drop at bytes), length-drop at bytes))
    ∙ rw (
      zero_is,
      byte 1 (omega arith),
      byte 2 (omega arith),
      byte 3 (omega arith),
      byte 4 (omega arith),
      byte 5 (omega arith),
    ) refl

pub all_bytes : (bytes : List ℕ) → IsBytes bytes → All (λ byte. byte < 256) bytes
all_bytes bytes h k d less = rw (get_or_default bytes k d 0 less) (h k)

pub are_bytes : (bytes : List ℕ) → All (λ byte. byte < 256) bytes → IsBytes bytes
are_bytes bytes all i =
    elim (cases_lt i (length bytes)) [
      | inl less ↦ all i 0 less
      | inr past ↦ rw (get_or_past bytes i 0 past) (omega arith)
    ]
