-- Why a tick isn't done.
use Rattle.std.specs.Prelude.{◌≡◌, ℕ, List, ◌++◌, codes, decimal}
use Rattle.block_ring.specs.declared.error.TickError.{TickError}
use Rattle.block_ring.specs.declared.error.TickError.TheVariants.{Backwards, Memory}

-- if the tick would go back, this is the moment that the last tick reported
abbrev pub IsBackwardsFrom : ℕ → TickError → Type 0
IsBackwardsFrom clock (Backwards moment) = moment ≡ clock
IsBackwardsFrom clock Memory = Unit {0}

-- how it is printed
abbrev pub tick_words : TickError → List ℕ
tick_words (Backwards clock) = codes "the clock stands at " ++ (decimal clock ++ codes " already")
tick_words Memory = codes "out of memory"
