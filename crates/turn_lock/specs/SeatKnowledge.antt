-- What a seat of the table knows at the start and after each step.
use Rattle.std.specs.Prelude.{ℕ, ◌+◌, ◌-◌, List, [], ◌∷◌, ◌++◌, length, Option, Some, None}
use Rattle.turn_lock.specs.declared.knowledge.Knows.{Knows}
use Rattle.turn_lock.specs.declared.knowledge.LockSeat.{LockSeat}
use Rattle.turn_lock.specs.declared.knowledge.SeatStage.TheVariants.{Idle, Inside}

module _ {E : Type 0} where
  -- a seat that hasn't had a turn
  abbrev pub fresh_place : ℕ → List E → LockSeat E
  fresh_place number first = record { number = number; last = first; drawn = 0 }

  -- it has drawn one more ticket
  abbrev pub with_ticket : List (LockSeat E) → List (LockSeat E)
  with_ticket [] = []
  with_ticket (place ∷ places) = record place { drawn = place.drawn + 1 } ∷ places

  -- it has left with this list stored
  abbrev pub with_last : List E → List (LockSeat E) → List (LockSeat E)
  with_last entries [] = []
  with_last entries (place ∷ places) = record place { last = entries } ∷ places

  -- how many tickets the seats have drawn together
  abbrev pub all_drawn : List (LockSeat E) → ℕ
  all_drawn [] = 0
  all_drawn (place ∷ places) = place.drawn + all_drawn places

module _ {E B : Type 0} where
  -- how many of the lock's seats it represents, those included that it may still make
  abbrev pub parts_of : Knows E B → ℕ
  parts_of v = length v.places + v.spare

  -- how many tickets it has drawn
  abbrev pub drawn_of : Knows E B → ℕ
  drawn_of v = all_drawn v.places

  -- an idle seat of this number
  abbrev pub seated : Option B → List E → ℕ → ℕ → ℕ → Knows E B
  seated base first number spare next = record {
    base = base;
    first = first;
    places = fresh_place number first ∷ [];
    spare = spare;
    next = next;
    stage = Idle;
    ticket = 0;
    seen = [];
  }

  -- the seat 0 of n, before the others are made
  abbrev pub opening : B → List E → ℕ → Knows E B
  opening base first n = seated (Some base) first 0 (n - 1) 1

  -- it has made the next seat
  abbrev pub maker : Knows E B → Knows E B
  maker v = record v { spare = v.spare - 1; next = v.next + 1 }

  -- the seat that it made
  abbrev pub newcomer : Knows E B → Knows E B
  newcomer v = seated v.base v.first v.next 0 0

  -- it has found that this ticket is served
  abbrev pub looked : Knows E B → ℕ → Knows E B
  looked v served = record v { ticket = served }

  -- it has drawn the ticket, and its turn has begun with this list stored
  abbrev pub entered : Knows E B → ℕ → List E → Knows E B
  entered v ticket entries = record v {
    places = with_ticket v.places;
    stage = Inside;
    ticket = ticket;
    seen = entries;
  }

  -- its turn has ended with this list stored
  abbrev pub left : Knows E B → List E → Knows E B
  left v entries = record v { places = with_last entries v.places; stage = Idle }

  -- it represents the seats of both, the other's first
  abbrev pub joined : Knows E B → Knows E B → Knows E B
  joined v w = record v { places = w.places ++ v.places; spare = v.spare + w.spare }

  -- it represents no seat any more
  abbrev pub spent : Knows E B
  spent = record {
    base = None;
    first = [];
    places = [];
    spare = 0;
    next = 0;
    stage = Idle;
    ticket = 0;
    seen = [];
  }
