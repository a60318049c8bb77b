-- Places of a ring: indices less than one round apart have different places, and those one round
-- apart the same.
use Rattle.std.proofs.Common.{◌≢◌, ℕ, ◌+◌, ◌%◌, ◌<◌, sym, le_of_lt, lt_of_not-le}
use mathlib.Core.Logic.{dite}
use native.Mathlib.Decide.{dec_le}
use Rattle.atomic_table.proofs.Lists.{one_turn}

-- two indices of one round have different places
pub elsewhere : (a b n : ℕ) → a ≢ b → a < b + n → b < a + n → a % n ≢ b % n
elsewhere a b n apart above below same =
    dite (dec_le a b) (λ le. apart (one_turn a b n le below same))
    (λ gt. apart (sym (one_turn b a n (le_of_lt (lt_of_not-le gt)) above (sym same))))
