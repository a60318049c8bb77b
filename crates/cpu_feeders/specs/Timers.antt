-- What the timer of a run does at the members.
use Rattle.std.specs.Prelude.{◌≡◌, ℕ, ◌<◌, false, List, length, slice_index_or}
use Rattle.capture_reports.specs.Timers.{AreTimed}
use Rattle.member_turns.specs.Seats.{IsReady, Lock, Seat}
use Rattle.member_turns.specs.TurnEffects.{IsTickTurn}
use Rattle.cpu_feeders.specs.declared.timer.Timer.{Timer}

-- a ready seat of the timer at each member
pub record AreTimers (locks : List Lock) (seats : List Seat) : Type 0 where
  pub count : length seats ≡ length locks
  pub ready : (member : ℕ) (lock : Lock) (seat : Seat) → member < length seats →
      IsReady (slice_index_or locks member lock) (slice_index_or locks member lock).base.cpus
      (slice_index_or seats member seat)

-- the moment was reported to each member in a turn
pub record HaveTicked (ms : ℕ) (locks : List Lock) (before after : List Seat) : Type 0 where
  pub count : length after ≡ length before
  pub each : (member : ℕ) (lock : Lock) (seat : Seat) → member < length before →
      IsTickTurn (slice_index_or locks member lock) (slice_index_or before member seat)
      (slice_index_or after member seat) ms

-- unless an allocation failed the timer has reported all moments to each member
abbrev pub TimesOut : List ℕ → List Lock → Timer → Type 0
TimesOut moments locks timer = timer.full ≡ false → AreTimed moments locks timer.member_seats.items
