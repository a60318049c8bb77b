-- What each step shows the seat that made it.
use Rattle.std.specs.Prelude.{◌≡◌, ℕ, ◌+◌, ◌<◌, ◌≤◌, ◌^◌}
use Rattle.atomic_table.specs.Table.{Me, Step}
use Rattle.ticket_dealer.specs.declared.knowledge.Hand.{Hand}
use Rattle.ticket_dealer.specs.Hands.{drew, ended, saw}
use Rattle.ticket_dealer.specs.Tickets.{AllBelow}

-- the ticket is the number that was found, above all that the seat drew before
abbrev pub Drew : Step (Unit {0}) → Me (Unit {0}) Hand → ℕ → Me (Unit {0}) Hand → Type 0
Drew step before found after =
    (after ≡ (drew before.0 found, before.1)) × AllBelow found before.0.drawn × (found < 2 ^ 37)

-- the seat has ended
abbrev pub Ended : Step (Unit {0}) → Me (Unit {0}) Hand → ℕ → Me (Unit {0}) Hand → Type 0
Ended step before found after = after ≡ (ended before.0, before.1)

-- The number of live feeders is that of all less those that called `done`: it counts the seat
-- itself where that hasn't, and is no more than the seat found before
pub record Saw (step : Step (Unit {0})) (before : Me (Unit {0}) Hand) (found : ℕ)
    (after : Me (Unit {0}) Hand) : Type 0 where
  pub seen : after ≡ (saw before.0 found, before.1)
  pub owing : before.0.owes ≤ found
  pub falls : 0 < before.0.shares → found ≤ before.0.live
  pub calls : (calls : ℕ) ×
      (0 < before.0.shares → found + calls ≡ before.0.feeders) × (before.0.ended ≤ calls)
