-- Counts of faults. A count never falls, and saturates at the greatest u64.
use Rattle.std.specs.Prelude.{ℕ, ◌+◌, ◌-◌, ◌^◌, ◌≤◌, min}

-- a count with one more
abbrev pub counted : ℕ → ℕ
counted count = min (count + 1) (2 ^ 64 - 1)

-- the count rose by at least n, or is at its greatest value
abbrev pub RoseBy : ℕ → ℕ → ℕ → Type 0
RoseBy many before now = min (before + many) (2 ^ 64 - 1) ≤ now

-- the count rose, or is at its greatest value
abbrev pub Rose : ℕ → ℕ → Type 0
Rose before now = RoseBy 1 before now
