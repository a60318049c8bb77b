-- A number that a word spells has 32 bits.
use Rattle.std.proofs.Common.{◌≡◌, ℕ, ◌≤◌, Bool, true, false, List, length, refl, arith, Some, None, Option}
use Rattle.std.specs.Prelude.{◌&&◌, nat_le, if◌then◌else◌}
use Rattle.std.specs.Char.{is_ascii_digit}
use Rattle.std.specs.List.{list_all}
use Rattle.std.proofs.lemmas.Bool.{leb-true}
use Rattle.text_lines.specs.Numbers.{is_number, number_of, value_of}

some_value : (value number : ℕ) → Some value ≡ Some number → value ≡ number
some_value value number h = cc

number_small : (word : List ℕ) (is : Bool) (number : ℕ) → (is ≡ true → value_of word ≤ 4294967295)
    → (if is then Some (value_of word) else None) ≡ Some number → number ≤ 4294967295
number_small word true number h e = omega (arith, h refl, some_value (value_of word) number e)
number_small word false number h e = cc

and_last : (a b : Bool) → (a && b) ≡ true → b ≡ true
and_last true b h = h
and_last false b h = cc

pub number_of-small : (word : List ℕ) (number : ℕ) → number_of word ≡ Some number → number ≤ 4294967295
unfolding number_of
number_of-small word number h =
    number_small word (is_number word) number (λ t. leb-true (value_of word) 4294967295 (and_last _ _ t)) h
