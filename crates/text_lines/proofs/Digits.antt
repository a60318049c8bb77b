-- What a loop over the digits of a number has read.
use Rattle.std.proofs.Common.{◌≡◌, ℕ, ◌^◌, ◌<◌, ◌≤◌, Bool, true, false, List, length, take, get_or, ap, sym, ◌∙◌, arith, Some}
use Rattle.std.proofs.Common.{None, subst}
use Rattle.std.specs.Char.{is_ascii_digit}
use Rattle.std.specs.List.{list_all}
use Rattle.std.proofs.lemmas.List.Folds.{list_all_at}
use Rattle.std.proofs.Math.Seq.{take-length}
use Rattle.std.specs.Prelude.{cond, nat_le, ◌&&◌, Result, Ok, Err, OkIff}
use Rattle.std.specs.Result.{result_ok}
use Rattle.text_lines.specs.Numbers.{value_of, number_of}

-- the first bytes of a word are digits, and this is their value
pub record ReadsDigits (word : List ℕ) (count value : ℕ) : Type 0 where
  pub digits : list_all is_ascii_digit (take count word) ≡ true
  pub value_is : value ≡ value_of (take count word)
  pub small : value < 10 ^ count

all_fails : (a b c d : Bool) → c ≡ false → (a && b && c && d) ≡ false
all_fails a b c d h = grind arith

pub number_of-not_digit : (word : List ℕ) (at : ℕ) → at < length word → is_ascii_digit (get_or word at 0) ≡ false
    → number_of word ≡ None
unfolding number_of
number_of-not_digit word at l h =
    let some = list_all_at is_ascii_digit word at 0 l h in
    grind (arith, some)

pub number_of-digits : (word : List ℕ) (value : ℕ) → 0 < length word → length word ≤ 10 → ReadsDigits word (length word) value
    → number_of word ≡ cond (nat_le value 4294967295) (Some value) None
unfolding number_of
number_of-digits word value l m r =
    let whole = take-length word in
    let digits : list_all is_ascii_digit word ≡ true = subst (λ bytes. list_all is_ascii_digit bytes ≡ true) whole r.digits in
    let value_is : value ≡ value_of word = r.value_is ∙ ap value_of whole in
    grind (arith, digits, value_is)

-- a number that fits into 32 bits, as an answer
fitting : {E : Type 0} (result : Result ℕ E) (value : ℕ) → OkIff result (value < 4294967296) value
    → result_ok result ≡ cond (nat_le value 4294967295) (Some value) None
fitting (Ok x) value h = grind (arith, h.0, h.1)
fitting (Err e) value h = grind (arith, h)

pub number_of-whole : {E : Type 0} (word : List ℕ) (count value : ℕ) (result : Result ℕ E) → 0 < length word → length word ≤ 10
    → count ≡ length word → ReadsDigits word count value → OkIff result (value < 4294967296) value
    → number_of word ≡ result_ok result
number_of-whole word count value result l m e r h =
    number_of-digits word value l m (subst (λ n. ReadsDigits word n value) e r) ∙ sym (fitting result value h)
