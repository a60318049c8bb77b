-- The place of the first word of a line.
use Rattle.std.proofs.Common.{◌≡◌, ℕ, zero, suc, ◌+◌, ◌<◌, Option, add-one, true, false, List, [], ◌∷◌, ◌++◌, length, take}
use Rattle.std.proofs.Common.{drop, get_or, refl, ap, sym, ◌∙◌, arith, Some, None, subst}
use Rattle.std.specs.Prelude.{not}
use Rattle.std.specs.List.{position, onto_first, slice_split}
use Rattle.std.proofs.lemmas.List.{append-nil, take-append-drop, get_or-drop, length-drop}
use Rattle.std.proofs.Math.ListN.{length-take}
use Rattle.std.proofs.Math.Seq.{take-length, drop-length, drop-cons}
use Rattle.std.specs.Option.{unwrap_or}
use Rattle.text_lines.proofs.Positions.{AllFail, fails_before, fails_where_none, split_at_position, passes_at}
use Rattle.text_lines.proofs.Positions.{position_is_place}
use Rattle.text_lines.specs.Words.{is_blank, words_of}

-- a blank before a word is no part of it
words_of-blank : (b : ℕ) (line : List ℕ) → is_blank b ≡ true → words_of (b ∷ line) ≡ words_of line
unfolding words_of
words_of-blank b line h = rw h refl

words_of-gap : (gap line : List ℕ) → AllFail (λ b. not (is_blank b)) gap → words_of (gap ++ line) ≡ words_of line
words_of-gap [] line h = refl
words_of-gap (b ∷ gap) line h =
    words_of-blank b (gap ++ line) (grind (arith, h.0)) ∙ words_of-gap gap line h.1

-- the parts of bytes without a blank
split-word : (word : List ℕ) → AllFail is_blank word → slice_split is_blank word ≡ word ∷ []
split-word [] h = refl
split-word (b ∷ word) h = rw h.0 (ap (onto_first b) (split-word word h.1))

split-word_and_blank : (word : List ℕ) (b : ℕ) (line : List ℕ) → AllFail is_blank word → is_blank b ≡ true
    → slice_split is_blank (word ++ (b ∷ line)) ≡ word ∷ slice_split is_blank line
split-word_and_blank [] b line h e = rw e refl
split-word_and_blank (c ∷ word) b line h e = rw h.0 (ap (onto_first c) (split-word_and_blank word b line h.1 e))

words_of-word : (word : List ℕ) → 0 < length word → AllFail is_blank word → words_of word ≡ word ∷ []
unfolding words_of
words_of-word [] l h = absurd (omega arith)
words_of-word (b ∷ word) l h = rw (split-word (b ∷ word) h) refl

words_of-word_and_blank : (word : List ℕ) (b : ℕ) (line : List ℕ) → 0 < length word → AllFail is_blank word → is_blank b ≡ true
    → words_of (word ++ (b ∷ line)) ≡ word ∷ words_of (b ∷ line)
unfolding words_of
words_of-word_and_blank [] b line l h e = absurd (omega arith)
words_of-word_and_blank (c ∷ word) b line l h e =
    rw (split-word_and_blank (c ∷ word) b line h e) (ap (λ words. (c ∷ word) ∷ words) (sym (words_of-blank b line e)))

words_of-nothing : words_of [] ≡ []
unfolding words_of
words_of-nothing = refl

-- where only blanks are left
pub words_of-blanks : (line : List ℕ) → position (λ b. not (is_blank b)) line ≡ None → words_of line ≡ []
words_of-blanks line h =
    ap words_of (sym (append-nil line))
    ∙ words_of-gap line [] (fails_where_none (λ b. not (is_blank b)) line h) ∙ words_of-nothing

-- the place of the first blank, or the end
abbrev pub word_end : List ℕ → ℕ
word_end line = unwrap_or (position is_blank line) (length line)

-- the first byte is there and isn't a blank
pub record StartsWithWord (line : List ℕ) : Type 0 where
  pub more : 0 < length line
  pub byte : is_blank (get_or line 0 0) ≡ false

-- the line's first word ends at the place, and has a byte
pub record IsFirstWord (line : List ℕ) (end : ℕ) : Type 0 where
  pub words : words_of line ≡ take end line ∷ words_of (drop end line)
  pub some : 0 < end

-- the first byte of a word is no blank
not_first : (line : List ℕ) (end : ℕ) → is_blank (get_or line 0 0) ≡ false → is_blank (get_or line end 0) ≡ true → 0 < end
not_first line zero n h = cc
not_first line (suc end) n h = omega arith

first_word_before_blank : (line : List ℕ) (end : ℕ) → StartsWithWord line → position is_blank line ≡ Some end
    → IsFirstWord line end
first_word_before_blank line end s h =
    let blank = passes_at is_blank line end h in
    let some = not_first line end s.byte blank in
    let small = position_is_place is_blank line end h in
    let long : 0 < length (take end line) = omega (arith, length-take end line) in
    let behind : drop end line ≡ get_or line end 0 ∷ drop (end + 1) line = rw add-one (drop-cons line end 0 small) in
    record {
      words = ap words_of (split_at_position is_blank line end h)
          ∙ words_of-word_and_blank (take end line) (get_or line end 0) (drop (end + 1) line) long
          (fails_before is_blank line end h) blank
          ∙ ap (λ rest. take end line ∷ words_of rest) (sym behind);
      some = some;
    }

first_word_at_end : (line : List ℕ) → StartsWithWord line → position is_blank line ≡ None → IsFirstWord line (length line)
first_word_at_end line s h =
    let whole = words_of-word line s.more (fails_where_none is_blank line h) in
    record {
      words = rw (take-length, drop-length) (whole ∙ ap (λ words. line ∷ words) (sym words_of-nothing));
      some = s.more;
    }

pub first_word : (line : List ℕ) → StartsWithWord line → IsFirstWord line (word_end line)
first_word line s = ends_somewhere line (position is_blank line) s refl
  where
    ends_somewhere : (line : List ℕ) (found : Option ℕ) → StartsWithWord line → position is_blank line ≡ found
        → IsFirstWord line (unwrap_or found (length line))
    ends_somewhere line None s h = first_word_at_end line s h
    ends_somewhere line (Some end) s h = first_word_before_blank line end s h

pub starts_with_word : (line : List ℕ) (start : ℕ) → position (λ b. not (is_blank b)) line ≡ Some start
    → StartsWithWord (drop start line)
starts_with_word line start h =
    let small = position_is_place (λ b. not (is_blank b)) line start h in
    let here = passes_at (λ b. not (is_blank b)) line start h in
    record {
      more = omega (arith, length-drop start line);
      byte = rw (get_or-drop start line 0 0) (grind (arith, here));
    }

pub words_of-start : (line : List ℕ) (start : ℕ) → position (λ b. not (is_blank b)) line ≡ Some start
    → words_of line ≡ words_of (drop start line)
words_of-start line start h =
    ap words_of (sym (take-append-drop start line))
    ∙ words_of-gap (take start line) (drop start line) (fails_before (λ b. not (is_blank b)) line start h)

-- the line after its leading blanks, its first word, and what is left after that
pub words_of-cut : (line : List ℕ) (start : ℕ) (rest : List ℕ) (end : ℕ) (word behind : List ℕ)
    → position (λ b. not (is_blank b)) line ≡ Some start → rest ≡ drop start line → end ≡ word_end rest
    → word ≡ take end rest → behind ≡ drop end rest → words_of line ≡ word ∷ words_of behind
words_of-cut line start rest end word behind h r e w b =
    let first = first_word (drop start line) (starts_with_word line start h) in
    let begun = words_of-start line start h in
    let words = first.words in
    let end_is : end ≡ word_end (drop start line) = e ∙ ap word_end r in
    cc

pub shorter_behind_word : (line : List ℕ) (start : ℕ) (rest : List ℕ) (end : ℕ) (behind : List ℕ)
    → position (λ b. not (is_blank b)) line ≡ Some start → rest ≡ drop start line → end ≡ word_end rest
    → behind ≡ drop end rest → length behind < length line
shorter_behind_word line start rest end behind h r e b =
    let first = first_word (drop start line) (starts_with_word line start h) in
    let some : 0 < end = subst (λ n. 0 < n) (sym (e ∙ ap word_end r)) first.some in
    let small = position_is_place (λ b. not (is_blank b)) line start h in
    omega (arith, ap length b, ap length r, length-drop start line, length-drop end rest)
