-- The words of a line, and the bytes that a line may have.
use Rattle.std.specs.Prelude.{ℕ, Bool, true, false, ◌&&◌, ◌||◌, List, [], ◌∷◌, nat_le, ◌==◌}
use Rattle.std.specs.List.{filter, list_all, slice_split}

-- a space or a tab
abbrev pub is_blank : ℕ → Bool
is_blank b = (b == 32) || (b == 9)

-- whether a part between blanks has a byte
abbrev pub is_word : List ℕ → Bool
is_word [] = false
is_word (b ∷ bytes) = true

-- the words of a line: the parts between its blanks that have a byte
unfoldable pub words_of : List ℕ → List (List ℕ)
words_of line = filter is_word (slice_split is_blank line)

-- a printable ASCII byte (a space is one), or a tab
abbrev pub is_plain_byte : ℕ → Bool
is_plain_byte b = (nat_le 32 b && nat_le b 126) || (b == 9)

abbrev pub is_plain : List ℕ → Bool
is_plain line = list_all is_plain_byte line

-- whether a word begins with the byte `#`
abbrev pub is_comment : List ℕ → Bool
is_comment [] = false
is_comment (b ∷ bytes) = b == 35

-- whether the line of these words is skipped: it has no word, or the first one begins with `#`
abbrev pub is_passed_over : List (List ℕ) → Bool
is_passed_over [] = true
is_passed_over (word ∷ more) = is_comment word
