-- What the timer of a run has reported to its members.
use Rattle.std.specs.Prelude.{◌≡◌, ℕ, ◌<◌, List, length, slice_index_or}
use Rattle.capture_reports.specs.Ticks.{NoneCounted, ticks_of}
use Rattle.member_turns.specs.Seats.{IsReady, Lock, Seat, own_of}
use Rattle.ring_model.specs.declared.notes.Note.{Note}

-- the timer has reported these moments to a member, one turn each
pub record IsTimed (moments : List ℕ) (lock : Lock) (seat : Seat) : Type 0 where
  pub ready : IsReady lock lock.base.cpus seat
  pub entered : seat.entered ≡ length moments
  pub ticks : ticks_of (own_of lock seat) ≡ moments

-- and the same at each member
pub record AreTimed (moments : List ℕ) (locks : List Lock) (seats : List Seat) : Type 0 where
  pub count : length seats ≡ length locks
  pub each : (member : ℕ) (lock : Lock) (seat : Seat) → member < length seats →
      IsTimed moments (slice_index_or locks member lock) (slice_index_or seats member seat)

-- the timer reported these moments to a member, each once and in order, and no statistics were
-- taken
pub record IsTicked (moments : List ℕ) (notes : List Note) : Type 0 where
  pub ticks : ticks_of notes ≡ moments
  pub counted : NoneCounted notes
