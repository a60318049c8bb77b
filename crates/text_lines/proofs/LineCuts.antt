-- Where the first line of a text ends.
use Rattle.std.proofs.Common.{◌≡◌, ℕ, ◌+◌, ◌<◌, true, false, List, [], ◌∷◌, ◌++◌, length, take, drop, get_or, refl, ap, sym}
use Rattle.std.proofs.Common.{◌∙◌, arith, Some, None, nat_eq}
use Rattle.std.specs.List.{position, onto_first}
use Rattle.std.specs.Str.Lines.{strip_carriage_return}
use Rattle.std.proofs.lemmas.Grind.{common_steps}
use Rattle.std.proofs.lemmas.List.{drop-drop}
use Rattle.text_lines.proofs.Positions.{AllFail, fails_before, fails_where_none, split_at_position, passes_at}
use Rattle.text_lines.specs.Lines.{lines_of, starts_with_line_feed}

-- the bytes have no line feed
abbrev HasNoLineFeed : List ℕ → Type 0
HasNoLineFeed bytes = AllFail (λ b. nat_eq b 10) bytes

-- the bytes before the last one stay when that one is dropped
pub strip_more : (b c : ℕ) (bytes : List ℕ) → strip_carriage_return (b ∷ c ∷ bytes) ≡ b ∷ strip_carriage_return (c ∷ bytes)
strip_more b c bytes = grind (arith, common_steps)

-- a byte that ends no line and isn't dropped is in the first line
lines_of-byte : (b : ℕ) (bytes : List ℕ) → nat_eq b 10 ≡ false → starts_with_line_feed bytes ≡ false
    → lines_of (b ∷ bytes) ≡ onto_first b (lines_of bytes)
unfolding lines_of
lines_of-byte b bytes h g = grind (arith, common_steps)

-- the last byte before a line feed is dropped where it is a carriage return
lines_of-last_byte : (b : ℕ) (rest : List ℕ) → nat_eq b 10 ≡ false
    → lines_of (b ∷ 10 ∷ rest) ≡ strip_carriage_return (b ∷ []) ∷ lines_of rest
unfolding lines_of
lines_of-last_byte b rest h = grind (arith, common_steps)

lines_of-line_feed : (front rest : List ℕ) → HasNoLineFeed front
    → lines_of (front ++ (10 ∷ rest)) ≡ strip_carriage_return front ∷ lines_of rest
unfolding lines_of
lines_of-line_feed [] rest h = refl
lines_of-line_feed (b ∷ []) rest h = lines_of-last_byte b rest h.0
lines_of-line_feed (b ∷ c ∷ front) rest h =
    lines_of-byte b ((c ∷ front) ++ (10 ∷ rest)) h.0 h.1.0
    ∙ ap (onto_first b) (lines_of-line_feed (c ∷ front) rest h.1)
    ∙ ap (λ line. line ∷ lines_of rest) (sym (strip_more b c front))

lines_of-one : (b : ℕ) (bytes : List ℕ) → HasNoLineFeed (b ∷ bytes) → lines_of (b ∷ bytes) ≡ (b ∷ bytes) ∷ []
unfolding lines_of
lines_of-one b [] h = lines_of-byte b [] h.0 refl
lines_of-one b (c ∷ bytes) h = lines_of-byte b (c ∷ bytes) h.0 h.1.0 ∙ ap (onto_first b) (lines_of-one c bytes h.1)

lines_of-split : (front rest : List ℕ) (b : ℕ) → HasNoLineFeed front → nat_eq b 10 ≡ true
    → lines_of (front ++ (b ∷ rest)) ≡ strip_carriage_return front ∷ lines_of rest
lines_of-split front rest b h e =
    let is_line_feed : b ≡ 10 = grind arith in
    ap (λ c. lines_of (front ++ (c ∷ rest))) is_line_feed ∙ lines_of-line_feed front rest h

-- a text that has a line feed
pub lines_of-cut : (text line rest : List ℕ) (end : ℕ) → position (λ b. nat_eq b 10) text ≡ Some end
    → line ≡ strip_carriage_return (take end text) → rest ≡ drop 1 (drop end text) → lines_of text ≡ line ∷ lines_of rest
lines_of-cut text line rest end h l r =
    let cut =
    ap lines_of (split_at_position (λ b. nat_eq b 10) text end h)
    ∙ lines_of-split (take end text) (drop (end + 1) text) (get_or text end 0) (fails_before (λ b. nat_eq b 10) text end h)
    (passes_at (λ b. nat_eq b 10) text end h) in
    let behind = r ∙ drop-drop 1 end text in
    cc

-- a text that has none
pub lines_of-whole : (text : List ℕ) → 0 < length text → position (λ b. nat_eq b 10) text ≡ None → lines_of text ≡ text ∷ []
lines_of-whole [] l h = absurd (omega arith)
lines_of-whole (b ∷ bytes) l h = lines_of-one b bytes (fails_where_none (λ b. nat_eq b 10) (b ∷ bytes) h)

pub lines_of-empty : (text : List ℕ) → length text ≡ 0 → lines_of text ≡ []
unfolding lines_of
lines_of-empty [] h = refl
lines_of-empty (b ∷ bytes) h = absurd (omega arith)
