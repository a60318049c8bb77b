-- What a seat of a lock is to its owner, by what it knows at the table.
use Rattle.std.specs.Prelude.{◌≡◌, ℕ, ◌<◌, ◌^◌, List, [], ◌∷◌, Option, Some, None}
use Rattle.atomic_table.specs.Seated.{TableId}
use Rattle.atomic_table.specs.declared.shared.Seat.{Seat}
use Rattle.turn_lock.specs.declared.knowledge.Knows.{Knows}
use Rattle.turn_lock.specs.declared.knowledge.LockSeat.{LockSeat}
use Rattle.turn_lock.specs.declared.knowledge.SeatStage.{SeatStage}
use Rattle.turn_lock.specs.declared.knowledge.SeatStage.TheVariants.{Idle, Inside}
use Rattle.turn_lock.specs.declared.knowledge.Opening.{Opening}
use Rattle.turn_lock.specs.Seats.{LockValue, SeatValue}

module _ {E : Type 0} where
  abbrev pub number_in : List (LockSeat E) → ℕ
  number_in [] = 0
  number_in (place ∷ places) = place.number

  abbrev pub last_in : List (LockSeat E) → List E
  last_in [] = []
  last_in (place ∷ places) = place.last

  abbrev pub drawn_in : List (LockSeat E) → ℕ
  drawn_in [] = 0
  drawn_in (place ∷ places) = place.drawn

  -- in its turn, the list that was stored when that began
  abbrev pub turn_in : SeatStage → List E → Option (List E)
  turn_in Idle seen = None
  turn_in Inside seen = Some seen

module _ {V : Type 0} where
  -- between two calls a seat is idle and holds nothing, or it is inside and holds the emptied slot
  abbrev pub Holds : SeatStage → List (ℕ × Option V) → Type 0
  Holds Idle carried = carried ≡ []
  Holds Inside carried = carried ≡ (0, None) ∷ []

module _ {V E B : Type 0} where
  -- what its owner sees
  abbrev pub seat_value : Seat (Option V) (Knows E B) → SeatValue E B
  seat_value s = record {
    lock = s.table_id;
    number = number_in s.me.0.places;
    base = s.me.0.base;
    first = s.me.0.first;
    last = last_in s.me.0.places;
    entered = drawn_in s.me.0.places;
    turn = turn_in s.me.0.stage s.me.0.seen;
  }

  -- it represents one seat of the lock, makes no other, and has its ticket's number in hand
  pub record IsSeat (s : Seat (Option V) (Knows E B)) (ticket : ℕ) : Type 0 where
    pub represented : LockSeat E
    pub one : s.me.0.places ≡ represented ∷ []
    pub makes_none : s.me.0.spare ≡ 0
    pub ticket_is : s.me.0.ticket ≡ ticket
    pub small : ticket < 2 ^ 38
    pub holds : Holds s.me.0.stage s.me.1

module _ {V E B : Type 0} (base : V → B) (stored : V → List E) where
  -- what contracts see of a lock
  abbrev pub lock_of : TableId → Opening V → LockValue E B
  lock_of id opening = record {
    id = id;
    base = base opening.value.value;
    first = stored opening.value.value;
    seats = opening.seats;
  }
