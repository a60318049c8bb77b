-- The rule of a dealer's table: it holds between any two steps. Word 0 is the next ticket, word 1
-- the number of feeders that haven't ended.
use Rattle.std.specs.Prelude.{◌≡◌, ℕ, ◌+◌, ◌*◌, ◌<◌, ◌≤◌, ◌^◌, length, slice_index, sum_by}
use mathlib.Core.Option.{some}
use lib.ListN.{get_elem?}
use Rattle.atomic_table.specs.Table.{State}
use Rattle.ticket_dealer.specs.declared.knowledge.Hand.{Hand}
use Rattle.ticket_dealer.specs.Tickets.{times, once_below, AllBelow, Rises}

-- Of a seat: what it drew is below the next ticket, it drew few, in order where it represents one
-- of the dealer's, and no more feeders are live than it found
pub record HandOk (feeders next live : ℕ) (v : Hand) : Type 0 where
  pub below : AllBelow next v.drawn
  pub few : length v.drawn ≤ v.shares * 2 ^ 32
  pub rises : v.shares ≡ 1 → Rises 0 v.drawn
  pub later : 0 < v.shares → live ≤ v.live
  pub knows : 0 < v.shares → v.feeders ≡ feeders

-- Each number below the next ticket was drawn once, and the live feeders are those that owe a call
-- of `done`
pub record Dealt (feeders : ℕ) (s : State (Unit {0}) Hand) : Type 0 where
  pub words_are : length s.words ≡ 2
  pub some_feeders : feeders ≤ 8
  pub shares : sum_by (λ v. v.shares) s.views ≡ feeders + 9
  pub once : (ticket : ℕ) →
      sum_by (λ v. times ticket v.drawn) s.views ≡ once_below (slice_index s.words 0) ticket
  pub sum : sum_by (λ v. length v.drawn) s.views ≡ slice_index s.words 0
  pub live : sum_by (λ v. v.owes) s.views ≡ slice_index s.words 1
  pub calls : sum_by (λ v. v.ended) s.views + slice_index s.words 1 ≡ feeders
  pub each_hand : (j : ℕ) (v : Hand) → get_elem? s.views j ≡ some v →
      HandOk feeders (slice_index s.words 0) (slice_index s.words 1) v
