-- The words of arguments are all that was told, UTF-8, and no longer than the largest buffer.
use Rattle.std.proofs.Common.{◌≡◌, ℕ, ◌*◌, ◌%◌, ◌^◌, ◌<◌, ◌≤◌, List, [], ◌∷◌, ◌++◌, length, map, take}
use Rattle.std.proofs.Common.{Option, None, Some, Result, Ok, Err, All, IfOk, IfSome, IsUtf8, inl, inr}
use Rattle.std.proofs.Common.{sym, ap, ◌∙◌, subst, arith}
use Rattle.std.proofs.lemmas.Bool.{cases_lt}
use Rattle.std.proofs.lemmas.List.{length-take, map-append}
use Rattle.std.proofs.lemmas.List.Elements.{All-push}
use Rattle.std.proofs.lemmas.Nat.{pow_below}
use Rattle.std.proofs.lemmas.Str.{IsUtf8-nil}

-- the empty word is UTF-8
pub empty_text : {E : Type 0} (result : Result (List ℕ) E) → IfOk result (λ word. word ≡ [])
    → IfOk result IsUtf8
empty_text (Ok word) is = subst IsUtf8 (sym is) IsUtf8-nil
empty_text (Err error) is = tt

-- the largest buffer has 2^25 bytes
buffer_bounded : (size : ℕ) → size < 26 → 2 ^ size ≤ 33554432
buffer_bounded size less = elim (cases_lt size 25) [
  | inl below ↦ let power = pow_below size 25 below in omega (arith, power)
  | inr past ↦
      let is : size ≡ 25 = omega (arith, past, less) in
      let power = ap (λ n. 2 ^ n) is in omega (arith, power)
]

-- so a word that is read into one of 2^size bytes is no longer than the largest
pub word_bounded : (word bytes : List ℕ) (given many room size : ℕ) → size < 26
    → room ≡ (1 * 2 ^ size) % 18446744073709551616 → many ≡ room → given ≤ many
    → length word ≤ length (take given bytes) → length word ≤ 33554432
word_bounded word bytes given many room size less is same fits most =
    let bound = buffer_bounded size less in
    let taken = length-take given bytes in omega (arith, bound, taken, less, is, same, fits, most)

-- one more word
pub one_more : (P : List ℕ → Type 0) (words more : List (List ℕ)) (found : Option (List ℕ))
    (word : List ℕ) → more ≡ words ++ word ∷ [] → found ≡ Some word → IfSome found P → All P words
    → All P more
one_more P words more None word added is holds all = cc
one_more P words more (Some found) word added is holds all =
    subst (All P) (sym added) (All-push P words word all (subst (λ option. IfSome option P) is holds))

-- one more answer, which is a word
pub one_told : (words more : List (List ℕ)) (before after : List (Option (List ℕ))) (found : Option (List ℕ))
    (word : List ℕ) → more ≡ words ++ word ∷ [] → found ≡ Some word → after ≡ before ++ found ∷ []
    → before ≡ map Some words → after ≡ map Some more
one_told words more before after found word added is told all =
    told
    ∙ ap (λ (answers : List (Option (List ℕ))). answers ++ found ∷ []) all
    ∙ ap (λ (answer : Option (List ℕ)). map Some words ++ answer ∷ []) is
    ∙ sym (map-append Some words (word ∷ []))
    ∙ ap (λ (those : List (List ℕ)). map Some those) (sym added)
