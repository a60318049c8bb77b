-- How a lock ends: the turns that there were.
use Rattle.std.specs.Prelude.{◌≡◌, ℕ, ◌+◌, ◌<◌, ◌==◌, if◌then◌else◌, Bool, List, [], ◌∷◌, ◌++◌}
use Rattle.std.specs.Prelude.{length}
use Rattle.std.specs.List.{AllByRecursion}
use Rattle.turn_lock.specs.Histories.{IsTurn, GoesOn}
use Rattle.turn_lock.specs.Seats.{SeatValue, entered_by}

module _ {E : Type 0} where
  -- how many of the turns are the seat's; a turn has its seat's number and what it added
  abbrev pub turns_of : ℕ → List (ℕ × List E) → ℕ
  turns_of number [] = 0
  turns_of number (turn ∷ turns) = (if turn.0 == number then 1 else 0) + turns_of number turns

  -- what the turns added, one after another
  abbrev pub added_in : List (ℕ × List E) → List E
  added_in [] = []
  added_in (turn ∷ turns) = turn.1 ++ added_in turns

  -- a turn of one of n seats, which added nothing or one entry that its seat may add
  abbrev pub IsTurnOf : (ℕ → E → Bool) → ℕ → ℕ × List E → Type 0
  IsTurnOf may_add n turn = (turn.0 < n) × IsTurn may_add turn.0 turn.1

module _ {E B : Type 0} where
  -- all turns of the seat are among these, and the list continues its last
  abbrev pub HasTurns : (ℕ → E → Bool) → List (ℕ × List E) → List E → SeatValue E B → Type 0
  HasTurns may_add turns entries seat =
      (turns_of seat.number turns ≡ seat.entered) × GoesOn may_add seat.number seat.last entries

  -- the list is the first one followed by what the turns of these seats added, each turn's once and
  -- no others
  pub record Ends (may_add : ℕ → E → Bool) (first : List E) (seats : List (SeatValue E B))
      (entries : List E) : Type 0 where
    pub turns : List (ℕ × List E)
    pub history : entries ≡ first ++ added_in turns
    pub lawful : AllByRecursion (IsTurnOf may_add (length seats)) turns
    pub each_seat : AllByRecursion (HasTurns may_add turns entries) seats
    pub all_turns : length turns ≡ entered_by seats
