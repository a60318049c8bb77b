-- The slots that an end has out, and counts of looks.
use Rattle.std.proofs.Common.{◌≡◌, ℕ, zero, suc, ◌+◌, ◌-◌, ◌/◌, ◌%◌, ◌<◌, ◌≤◌, Bool, true, false, List, [], ◌∷◌, ◌++◌, None}
use Rattle.std.proofs.Common.{refl, sym, ap, ◌∙◌, add-zero, append-nil, arith}
use Rattle.std.specs.Prelude.{if◌then◌else◌, nat_eq}
use Rattle.atomic_table.specs.Seated.{TableId}
use Rattle.atomic_table.specs.Table.{rest, turned}
use Rattle.ring_words.specs.TableEnds.{IsSeated, even_count, found_in, odd_count, slots_of}

-- a list that begins with one slot
pub front_of : {S : Type 0} (l : List (ℕ × S)) (x : ℕ × S) (xs : List (ℕ × S)) → l ≡ x ∷ xs → l ≡ x ∷ rest l
front_of l x xs e = e ∙ ap (λ t. x ∷ rest t) (sym e)

-- an end stays seated at its table
pub still_seated : (table seat now : TableId) (places : ℕ) → IsSeated table seat places → now ≡ seat → IsSeated table now places
still_seated table seat now places is same = record {
  same = same ∙ is.same;
  words = is.words;
  slots = is.slots;
  some_places = is.some_places;
  few_places = is.few_places;
}

module _ {B : Type 0} where
  -- one more block is out
  pub one_more : (places first last : ℕ) → first ≤ last
      → slots_of {B = B} places first (last + 1 - first) ≡ (last % places, None) ∷ slots_of places first (last - first)
  one_more places first last le =
      let count : last + 1 - first ≡ suc (last - first) = omega arith in
      let place : first + (last - first) ≡ last = omega arith in
      ap (slots_of places first) count ∙ ap (λ k. (k % places, None) ∷ slots_of places first (last - first)) place

  oldest_of : (places first count : ℕ) → 0 < count → count ≤ 2
      → turned (slots_of {B = B} places first count) ≡ (first % places, None) ∷ slots_of places (first + 1) (count - 1)
  oldest_of places first zero some few = absurd (omega arith)
  oldest_of places first (suc zero) some few = simp add-zero
  oldest_of places first (suc (suc zero)) some few = simp add-zero
  oldest_of places first (suc (suc (suc n))) some few = absurd (omega arith)

  -- of one or two blocks that are out, the older comes forward
  pub oldest : (places first last : ℕ) → first < last → last ≤ first + 2
      → turned (slots_of {B = B} places first (last - first)) ≡ (first % places, None)
      ∷ slots_of places (first + 1) (last - (first + 1))
  oldest places first last lt few =
      let count : last - first - 1 ≡ last - (first + 1) = omega arith in
      oldest_of places first (last - first) (omega arith) (omega arith)
      ∙ ap (λ k. (first % places, None) ∷ slots_of places (first + 1) k) count

pub odd_count_push : (words : List ℕ) (word : ℕ) → odd_count (words ++ word ∷ []) ≡ odd_count words + word % 2
odd_count_push [] word = omega arith
odd_count_push (x ∷ words) word = let h = odd_count_push words word in omega arith

pub even_count_push : (words : List ℕ) (word : ℕ) → even_count (words ++ word ∷ []) ≡ even_count words + (1 - word % 2)
even_count_push [] word = omega arith
even_count_push (x ∷ words) word = let h = even_count_push words word in omega arith

found_if : (b : Bool) (number : ℕ) (words more : List ℕ)
    → (if b then number ∷ (words ++ more) else words ++ more) ≡ (if b then number ∷ words else words) ++ more
found_if true number words more = refl
found_if false number words more = refl

found_push : (words : List ℕ) (word : ℕ) (more : List ℕ) → found_in (word ∷ []) ≡ more
    → found_in (words ++ word ∷ []) ≡ found_in words ++ more
found_push [] word more is = is
found_push (x ∷ words) word more is =
    ap (λ l. if nat_eq (x % 2) 1 then x / 256 ∷ l else l) (found_push words word more is)
    ∙ found_if (nat_eq (x % 2) 1) (x / 256) (found_in words) more

-- an odd word gives one more number
pub found_odd : (words : List ℕ) (word : ℕ) → word % 2 ≡ 1 → found_in (words ++ word ∷ []) ≡ found_in words ++ word / 256 ∷ []
found_odd words word odd = found_push words word (word / 256 ∷ []) (ap (λ b. if nat_eq b 1 then word / 256 ∷ [] else []) odd)

-- an even one gives none
pub found_even : (words : List ℕ) (word : ℕ) → word % 2 ≡ 0 → found_in (words ++ word ∷ []) ≡ found_in words
found_even words word even = found_push words word [] (ap (λ b. if nat_eq b 1 then word / 256 ∷ [] else []) even)
    ∙ append-nil (found_in words)
