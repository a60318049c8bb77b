-- How far apart two words are.
use Rattle.std.specs.Prelude.{ℕ, List, length}
use Rattle.std.specs.Str.{chars}
use Rattle.strsim.specs.Edits.{osa_table}

-- how many letters are to be changed, put in, left out, or to change places with the next one, so
-- that a word becomes the other one
abbrev pub edits : List ℕ → List ℕ → ℕ
edits word other = (osa_table (chars word) (chars other)).last_row (length (chars other))
