-- The lines of a text. A line feed is the byte 10, a carriage return the byte 13.
use Rattle.std.specs.Prelude.{ℕ, Bool, false, ◌&&◌, List, [], ◌∷◌, ◌==◌, if◌then◌else◌}
use Rattle.std.specs.List.{onto_first}

-- whether the first byte is a line feed
abbrev pub starts_with_line_feed : List ℕ → Bool
starts_with_line_feed [] = false
starts_with_line_feed (b ∷ bytes) = b == 10

-- A line feed ends a line, and the last line may lack it. One carriage return right before a line
-- feed is no part of the line; every other one is a byte of it. An empty text has no line.
unfoldable pub lines_of : List ℕ → List (List ℕ)
lines_of [] = []
lines_of (b ∷ bytes) =
    if b == 10 then [] ∷ lines_of bytes
    else if (b == 13) && starts_with_line_feed bytes then lines_of bytes
    else onto_first b (lines_of bytes)
