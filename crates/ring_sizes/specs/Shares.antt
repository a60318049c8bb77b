-- What a pass at each phase and beginning wants of frames, and what is found over all.
use Rattle.std.specs.Prelude.{ℕ, ◌<◌, ◌^◌, All, List, length}
use Rattle.std.specs.List.{AllByRecursion, sum_by}
use Rattle.ring_sizes.specs.Phases.{IsFirstFewest, IsFirstMost}
use Rattle.ring_sizes.specs.declared.extremes.Extremes.{Extremes}
use Rattle.ring_sizes.specs.declared.paces.Arrival.{Arrival}
use Rattle.ring_sizes.specs.declared.tries.Tries.{Tries}

-- the frames of a ring are early enough, in nanoseconds from the first of all rings on
abbrev pub AreEarly : List Arrival → Type 0
AreEarly arrivals = All (λ arrival. arrival.at < 2 ^ 53) arrivals

-- they and the end of the run are early enough, and they are few enough
pub record AreFew (arrivals : List Arrival) (end : ℕ) : Type 0 where
  pub early : AreEarly arrivals
  pub soon : end < 2 ^ 53
  pub few : length arrivals < 2 ^ 60

-- those of some rings are, and few enough in all
pub record AreFewInAll (members : List (List Arrival)) (end : ℕ) : Type 0 where
  pub early : AllByRecursion AreEarly members
  pub soon : end < 2 ^ 53
  pub few : sum_by (λ arrivals. length arrivals) members < 2 ^ 60

-- the least and the greatest number of those at all phases and beginnings that are tried, and the
-- first at which each is reached
pub record AreExtremes (number_at : ℕ → ℕ → ℕ) (tries : Tries) (extremes : Extremes)
    : Type 0 where
  pub fewest : IsFirstFewest tries number_at extremes.fewest
  pub most : IsFirstMost tries number_at extremes.most
