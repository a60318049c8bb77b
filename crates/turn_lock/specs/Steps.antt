-- What each step shows the seat that made it.
use Rattle.std.specs.Prelude.{◌≡◌, ◌≢◌, ℕ, ◌+◌, ◌<◌, ◌≤◌, ◌^◌, Bool, List, [], ◌∷◌, length, Option}
use Rattle.std.specs.Prelude.{Some}
use Rattle.atomic_table.specs.Table.{Me, Step}
use Rattle.turn_lock.specs.declared.knowledge.Knows.{Knows}
use Rattle.turn_lock.specs.declared.knowledge.LockSeat.{LockSeat}
use Rattle.turn_lock.specs.Histories.{GoesOn}
use Rattle.turn_lock.specs.SeatKnowledge.{looked, entered, left}

module _ {E : Type 0} where
  -- the seat represents one of the lock's, which has drawn few tickets
  abbrev pub MayDraw : List (LockSeat E) → Type 0
  MayDraw places = (place : LockSeat E) × (places ≡ place ∷ []) × (place.drawn < 2 ^ 32)

module _ {V E B : Type 0} where
  -- the ticket that is served is the number that was found
  abbrev pub Looked : Step (Option V) → Me (Option V) (Knows E B) → ℕ → Me (Option V) (Knows E B)
      → Type 0
  Looked step before found after = (after ≡ (looked before.0 found, before.1)) × (found < 2 ^ 38)

  -- the seat may have found another ticket served, and nothing else has changed
  abbrev pub HasLooked : Me (Option V) (Knows E B) → Me (Option V) (Knows E B) → Type 0
  HasLooked before after = (served : ℕ) × (after ≡ (looked before.0 served, before.1))

  -- the value is back, and its list is the seat's last
  abbrev pub Left : (V → List E) → Step (Option V) → Me (Option V) (Knows E B) → ℕ
      → Me (Option V) (Knows E B) → Type 0
  Left stored step before found after =
      (x : V) → before.1 ≡ (0, Some x) ∷ [] → after ≡ (left before.0 (stored x), [])

  module _ (stored : V → List E) (base : V → B) (may_add : B → ℕ → E → Bool) where
    -- the value's list continues each list that the seat's places left
    pub record Takes (before : Me (Option V) (Knows E B)) (x : V) : Type 0 where
      pub base_is : before.0.base ≡ Some (base x)
      pub goes_on : (place : LockSeat E) → before.0.places ≡ place ∷ [] →
          GoesOn (may_add (base x)) place.number place.last (stored x)
      pub few : length (stored x) ≤ length before.0.first + 2 ^ 37

    -- the seat has drawn the ticket, and has the value
    abbrev pub HasValue : Me (Option V) (Knows E B) → ℕ → Me (Option V) (Knows E B) → Type 0
    HasValue before ticket after = (x : V)
        × (after ≡ (entered before.0 ticket (stored x), (0, Some x) ∷ before.1)) × Takes before x

    -- where the number of tickets is the one expected, the seat has drawn the next ticket, whose
    -- turn it is, and has the value; otherwise all is as before
    pub record Drew (step : Step (Option V)) (before : Me (Option V) (Knows E B)) (found : ℕ)
        (after : Me (Option V) (Knows E B)) : Type 0 where
      pub drawn : found ≡ step.first → HasValue before found after
      pub missed : found ≢ step.first → after ≡ before
