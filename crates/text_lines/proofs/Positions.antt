-- The bytes before the first one that passes a test.
use Rattle.std.proofs.Common.{◌≡◌, ℕ, ◌+◌, ◌<◌, ◌≤◌, Bool, true, false, List, ◌∷◌, ◌++◌, length, take, drop, get_or, refl, ap}
use Rattle.std.proofs.Common.{sym, ◌∙◌, arith, Some, None, add-one, cond, nat_lt}
use Rattle.std.specs.List.{AllByRecursion, position, position_or_len}
use Rattle.std.proofs.lemmas.List.{take-append-drop, get_or-take, get_or_default}
use Rattle.std.proofs.lemmas.List.Quantifiers.{position-Some}
use Rattle.std.proofs.lemmas.List.Sums.{fails_before_first}
use Rattle.std.proofs.lemmas.List.Elements.{recursion_from_All}
use Rattle.std.proofs.Math.Seq.{drop-cons}
use Rattle.std.proofs.Math.ListN.{length-take}

-- no byte passes the test
abbrev pub AllFail : (ℕ → Bool) → List ℕ → Type 0
AllFail test bytes = AllByRecursion (λ b. test b ≡ false) bytes

fails_by_place : (test : ℕ → Bool) (bytes : List ℕ) → ((k : ℕ) → k < length bytes → test (get_or bytes k 0) ≡ false)
    → AllFail test bytes
fails_by_place test bytes h =
    recursion_from_All (λ b. test b ≡ false) bytes (λ k d l. ap test (get_or_default bytes k d 0 l) ∙ h k l)

pub fails_before : (test : ℕ → Bool) (bytes : List ℕ) (at : ℕ) → position test bytes ≡ Some at → AllFail test (take at bytes)
fails_before test bytes at h =
    let found = position-Some test bytes at 0 h in
    fails_by_place test (take at bytes) (λ k l.
    let small : k < at = omega (arith, length-take at bytes) in
    ap test (get_or-take at bytes k 0 small) ∙ found.2 k small)

-- an answer of `None` says that the test failed
no_place : (passes : Bool) (at : ℕ) → cond passes (Some at) None ≡ None → passes ≡ false
no_place true at h = cc
no_place false at h = refl

pub fails_where_none : (test : ℕ → Bool) (bytes : List ℕ) → position test bytes ≡ None → AllFail test bytes
fails_where_none test bytes h =
    let past : nat_lt (position_or_len test bytes) (length bytes) ≡ false = no_place _ _ h in
    let long : length bytes ≤ position_or_len test bytes = grind arith in
    fails_by_place test bytes (λ k l. fails_before_first test bytes k 0 (omega arith))

pub position_is_place : (test : ℕ → Bool) (bytes : List ℕ) (at : ℕ) → position test bytes ≡ Some at → at < length bytes
position_is_place test bytes at h = (position-Some test bytes at 0 h).0

-- the bytes up to the place, the byte there, and the bytes after it
pub split_at_position : (test : ℕ → Bool) (bytes : List ℕ) (at : ℕ) → position test bytes ≡ Some at
    → bytes ≡ take at bytes ++ (get_or bytes at 0 ∷ drop (at + 1) bytes)
split_at_position test bytes at h =
    let small = position_is_place test bytes at h in
    sym (take-append-drop at bytes) ∙ ap (λ rest. take at bytes ++ rest) (rw (add-one) (drop-cons bytes at 0 small))

pub passes_at : (test : ℕ → Bool) (bytes : List ℕ) (at : ℕ) → position test bytes ≡ Some at → test (get_or bytes at 0) ≡ true
passes_at test bytes at h = (position-Some test bytes at 0 h).1
