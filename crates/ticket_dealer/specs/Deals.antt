-- What a dealer's table keeps, in its own words: who drew which ticket, and how many feeders go on.
use Rattle.std.specs.Prelude.{◌≡◌, ◌≢◌, ℕ, ◌+◌, ◌<◌, List, length, slice_index, sum_by}
use mathlib.Core.Option.{some}
use lib.ListN.{get_elem?}
use Rattle.atomic_table.specs.Table.{State}
use Rattle.ticket_dealer.specs.declared.knowledge.Hand.{Hand}
use Rattle.ticket_dealer.specs.Tickets.{times, AllBelow, Rises}

-- the ticket was drawn once, by one seat
pub record IsDrawnOnce (views : List Hand) (ticket : ℕ) : Type 0 where
  pub seat : ℕ
  pub hand : Hand
  pub at : get_elem? views seat ≡ some hand
  pub once : times ticket hand.drawn ≡ 1
  pub by_no_other : (j : ℕ) (other : Hand) → j ≢ seat → get_elem? views j ≡ some other →
      times ticket other.drawn ≡ 0

-- Word 0 is the number of tickets drawn, word 1 the number of live feeders. A seat that was joined
-- with others has their tickets after one another, and represents as many seats of the dealer as
-- they did together
pub record IsDealing (feeders : ℕ) (table : State (Unit {0}) Hand) : Type 0 where
  -- each number below word 0 was drawn once, by one seat, and no others were drawn
  pub each : (ticket : ℕ) → ticket < slice_index table.words 0 → IsDrawnOnce table.views ticket
  pub none_else :
      (j : ℕ) (v : Hand)
      → get_elem? table.views j ≡ some v
      → AllBelow (slice_index table.words 0) v.drawn
  pub number : sum_by (λ v. length v.drawn) table.views ≡ slice_index table.words 0
  -- the tickets of a seat that wasn't joined rise
  pub rising :
      (j : ℕ) (v : Hand) → get_elem? table.views j ≡ some v → v.shares ≡ 1 → Rises 0 v.drawn
  -- each of the dealer's seats, one for each feeder and nine more, counts once
  pub seats : sum_by (λ v. v.shares) table.views ≡ feeders + 9
  -- word 1 and all calls of `done` are the number of feeders
  pub live : slice_index table.words 1 + sum_by (λ v. v.ended) table.views ≡ feeders
