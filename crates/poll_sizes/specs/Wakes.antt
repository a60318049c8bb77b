-- When a reader wakes: so long after a block is handed over, and after the stalls that hold that
-- moment. Moments are in nanoseconds from the first frame on.
use Rattle.std.specs.Prelude.{ℕ, zero, suc, ◌+◌, Bool, true, false, nat_le, nat_lt, ◌&&◌}
use Rattle.std.specs.Prelude.{if◌then◌else◌}
use Rattle.std.specs.Prelude.{List, [], ◌∷◌, length, Option, None, Some}
use Rattle.ring_sizes.specs.declared.paces.StallTime.{StallTime}

-- the end of the first stall of a list that holds a moment, or else the moment itself
abbrev pub after_stall : List StallTime → ℕ → ℕ
after_stall [] at = at
after_stall (stall ∷ stalls) at =
    if nat_le stall.from at && nat_lt at (stall.from + stall.length)
    then stall.from + stall.length else after_stall stalls at

-- the same so many times, since stalls may follow one another
abbrev pub after_stalls : ℕ → List StallTime → ℕ → ℕ
after_stalls zero stalls at = at
after_stalls (suc rounds) stalls at = after_stalls rounds stalls (after_stall stalls at)

-- the first moment, from one on, that is in no stall
abbrev pub wake_of : List StallTime → ℕ → ℕ
wake_of stalls at = after_stalls (length stalls) stalls at

-- the reader wakes before a moment
abbrev pub wakes_before : ℕ → Option ℕ → Bool
wakes_before at None = false
wakes_before at (Some wake) = nat_lt wake at

-- when the reader wakes, after an event that handed a block over or not: where it would wake at
-- this moment, but for stalls, and isn't to wake already
abbrev pub wake_after : List StallTime → ℕ → Bool → Option ℕ → Option ℕ
wake_after stalls at handed (Some wake) = Some wake
wake_after stalls at false None = None
wake_after stalls at true None = Some (wake_of stalls at)
