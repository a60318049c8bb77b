-- Members and readers that are closed after the joins.
use Rattle.std.specs.Prelude.{◌≡◌, false, List, [], ◌∷◌, length, ⊤}
use Rattle.std.specs.List.{AllByRecursion}
use Rattle.capture_reports.specs.Closed.{IsClosedOver}
use Rattle.cpu_feeders.specs.Walks.{Walks, taken_of}
use Rattle.cpu_feeders.specs.declared.closed_members.Closed.{Closed}
use Rattle.cpu_feeders.specs.declared.walker.ReaderThread.{ReaderThread}
use Rattle.member_turns.specs.Entries.{table_numbers}
use Rattle.member_turns.specs.Seats.{Lock, Seat}
use Rattle.reader_walk.specs.Takers.{Base}
use Rattle.tp_layout.specs.Layouts.{Taken}
use Rattle.turn_lock.specs.Seats.{IsIdleSeatOf}

module _ {T : Type 0} (base_of : T → Base) (taken_by : T → List Taken) where
  -- a member that may be closed with these seats, and its reader: all its seats are handed in, and
  -- the reader has no block of its ring in hand, and didn't run out of memory
  pub record AreAtEnd (lock : Lock) (member_seats : List Seat)
      (walker : ReaderThread T) : Type 0 where
    pub all : length member_seats ≡ lock.seats
    pub own : AllByRecursion (IsIdleSeatOf lock) member_seats
    pub ring : table_numbers walker.end.id ≡ lock.base.table
    pub shape : (base_of walker.taker).shape ≡ lock.base.shape
    pub walks : Walks base_of taken_by (base_of walker.taker) walker
    pub full : walker.full ≡ false

  -- what is left of them: the member was closed, and the taker has read all blocks that its ring
  -- retired
  pub record IsClosedWith (lock : Lock) (member_seats : List Seat) (walker : ReaderThread T)
      (closed : Closed T) : Type 0 where
    pub over : IsClosedOver lock.base.shape member_seats
        (record { lock = lock; notes = closed.notes; ring = closed.ring })
    pub base : base_of closed.taker ≡ base_of walker.taker
    pub read : taken_by closed.taker ≡ taken_of (base_of walker.taker) closed.ring.retired
    pub seat : closed.seat ≡ walker.seat

  -- and the same of each member
  abbrev pub AllAtEnd : List Lock → List (List Seat) → List (ReaderThread T) → Type 0
  AllAtEnd [] [] [] = ⊤
  AllAtEnd (lock ∷ locks) (member_seats ∷ rows) (walker ∷ walkers) =
      AreAtEnd lock member_seats walker × AllAtEnd locks rows walkers
  AllAtEnd locks rows walkers = ⊥

  abbrev pub AllClosedWith :
      List Lock → List (List Seat) → List (ReaderThread T) → List (Closed T) → Type 0
  AllClosedWith [] [] [] [] = ⊤
  AllClosedWith (lock ∷ locks) (member_seats ∷ rows) (walker ∷ walkers) (closed ∷ all) =
      IsClosedWith lock member_seats walker closed × AllClosedWith locks rows walkers all
  AllClosedWith locks rows walkers all = ⊥
