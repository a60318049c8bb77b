-- What a seat of a lock is to its owner.
use Rattle.std.specs.Prelude.{◌≡◌, ℕ, zero, suc, ◌+◌, Bool, List, [], ◌∷◌, Option, Some, None}
use Rattle.atomic_table.specs.Seated.{TableId}
use Rattle.turn_lock.specs.declared.knowledge.LockSeat.{LockSeat}
use Rattle.turn_lock.specs.Histories.{Adds}

-- What contracts see of a seat: the lock that it belongs to, its number from 0, what no turn
-- changes of the value, the list that was stored at first, the list that was stored when it left
-- the last time, how often it has entered, and in its turn the list that was stored when that began
pub record SeatValue (E B : Type 0) : Type 0 where
  pub lock : TableId
  pub number : ℕ
  pub base : Option B
  pub first : List E
  pub last : List E
  pub entered : ℕ
  pub turn : Option (List E)

-- What contracts see of a lock: which it is, what no turn changes of the value, the list that was
-- stored at first, and the number of seats
pub record LockValue (E B : Type 0) : Type 0 where
  pub id : TableId
  pub base : B
  pub first : List E
  pub seats : ℕ

module _ {E B : Type 0} where
  -- the seat belongs to the lock
  abbrev pub IsSeatOf : LockValue E B → SeatValue E B → Type 0
  IsSeatOf lock seat =
      (seat.lock ≡ lock.id) × (seat.base ≡ Some lock.base) × (seat.first ≡ lock.first)

  -- the seat belongs to the lock with this table and isn't in its turn
  abbrev pub IsIdleAt : TableId → SeatValue E B → Type 0
  IsIdleAt lock seat = (seat.lock ≡ lock) × (seat.turn ≡ None)

  -- the seat belongs to the lock and isn't in its turn
  abbrev pub IsIdleSeatOf : LockValue E B → SeatValue E B → Type 0
  IsIdleSeatOf lock seat = IsSeatOf lock seat × (seat.turn ≡ None)

  -- the seat has this number and hasn't entered yet
  abbrev pub IsNth : LockValue E B → ℕ → SeatValue E B → Type 0
  IsNth lock number seat = IsIdleSeatOf lock seat × (seat.number ≡ number) × (seat.entered ≡ 0)

  -- the seat is in its turn, and this is the list that was stored when it began, or that and one
  -- more entry that the seat may add
  abbrev pub AddsIn : (ℕ → E → Bool) → SeatValue E B → List E → Type 0
  AddsIn may_add seat entries =
      (before : List E) × (seat.turn ≡ Some before) × Adds may_add seat.number before entries

  -- the seat of this number as the lock is made
  abbrev pub fresh_seat : LockValue E B → ℕ → SeatValue E B
  fresh_seat lock number = record {
    lock = lock.id;
    number = number;
    base = Some lock.base;
    first = lock.first;
    last = lock.first;
    entered = 0;
    turn = None;
  }

  -- n seats as the lock is made, numbered from this number
  abbrev pub fresh_seats : LockValue E B → ℕ → ℕ → List (SeatValue E B)
  fresh_seats lock number zero = []
  fresh_seats lock number (suc more) = fresh_seat lock number ∷ fresh_seats lock (number + 1) more

  -- its turn has begun with this list stored
  abbrev pub inside : SeatValue E B → List E → SeatValue E B
  inside seat entries = record seat { entered = seat.entered + 1; turn = Some entries }

  -- its turn has ended with this list stored
  abbrev pub outside : SeatValue E B → List E → SeatValue E B
  outside seat entries = record seat { last = entries; turn = None }

  -- how often the seats have entered together
  abbrev pub entered_by : List (SeatValue E B) → ℕ
  entered_by [] = 0
  entered_by (seat ∷ seats) = seat.entered + entered_by seats

  -- what the table knows of a seat
  abbrev pub place_of : SeatValue E B → LockSeat E
  place_of seat = record { number = seat.number; last = seat.last; drawn = seat.entered }
