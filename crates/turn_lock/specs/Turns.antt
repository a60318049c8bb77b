-- The turn history: it holds between any two steps of a lock's table. Word 0 is the number of
-- tickets drawn, word 1 the ticket that is served, slot 0 has the value.
use Rattle.std.specs.Prelude.{◌≡◌, ◌⊎◌, ℕ, suc, ◌+◌, ◌<◌, ◌≤◌, ◌^◌, Bool, List, [], ◌∷◌, ◌++◌}
use Rattle.std.specs.Prelude.{length, take, slice_index, sum_by, Option, Some}
use mathlib.Core.Option.{some, none}
use mathlib.Core.Option as maybe
use lib.ListN.{get_elem?}
use Rattle.atomic_table.specs.Table.{State}
use Rattle.turn_lock.specs.declared.knowledge.Knows.{Knows}
use Rattle.turn_lock.specs.declared.knowledge.LockSeat.{LockSeat}
use Rattle.turn_lock.specs.declared.knowledge.SeatStage.{SeatStage}
use Rattle.turn_lock.specs.declared.knowledge.SeatStage.TheVariants.{Idle, Inside}
use Rattle.turn_lock.specs.Histories.{times, all_added, IsTurn}
use Rattle.turn_lock.specs.SeatKnowledge.{parts_of, drawn_of}

module _ {E B : Type 0} (owners : List ℕ) (added : List (List E)) (history : List E)
    (v : Knows E B) where
  -- it represents one seat, whose ticket this is
  abbrev pub HasTicket : Type 0
  HasTicket =
      (place : LockSeat E) × (v.places ≡ place ∷ [])
      × (get_elem? owners v.ticket ≡ some place.number)

  -- a seat that is idle has found a ticket that was served once, or is; one that is inside has the
  -- ticket that is served
  abbrev pub StageOk : SeatStage → Type 0
  StageOk Idle = v.ticket ≤ length added
  StageOk Inside = HasTicket × (v.ticket ≡ length added) × (v.seen ≡ history)

module _ {E : Type 0} where
  -- no two of the places are those of one seat
  abbrev pub AreApart : List (LockSeat E) → Type 0
  AreApart places = (k l : ℕ) (p q : LockSeat E) → get_elem? places k ≡ some p →
      get_elem? places l ≡ some q → p.number ≡ q.number → k ≡ l

-- A seat of the lock, of which the seat j of the table knows v: it has few tickets, and `last` has
-- what the turns added up to its latest one
pub record PlaceOk {E B : Type 0} (base : B) (first : List E) (owners : List ℕ)
    (added : List (List E)) (seat_of : ℕ → ℕ) (made j : ℕ) (v : Knows E B) (place : LockSeat E)
    : Type 0 where
  pub base_is : v.base ≡ Some base
  pub first_is : v.first ≡ first
  pub lies : seat_of place.number ≡ j
  pub is_made : place.number < made
  pub drawn_is : place.drawn ≡ times place.number owners
  pub few : place.drawn ≤ 2 ^ 32
  pub since : ℕ
  pub ended : since ≤ length added
  pub last_is : place.last ≡ first ++ all_added (take since added)
  pub latest : (i : ℕ) → since ≡ suc i → get_elem? owners i ≡ some place.number
  pub others : (i : ℕ) → since ≤ i → i < length added →
      ¬ (get_elem? owners i ≡ some place.number)

module _ {V E B : Type 0} (stored : V → List E) (base : V → B) where
  -- all tickets drawn are served to their end, and the value is in its slot and has the history
  -- stored; or all but one are, and a seat that is inside has the value
  abbrev pub ValueOk : B → List E → ℕ → ℕ → List (maybe.Option (Option V)) → List (Knows E B)
      → Type 0
  ValueOk b history drawn ended homes views =
      ((x : V) × (homes ≡ some (Some x) ∷ []) × (stored x ≡ history) × (base x ≡ b)
      × (drawn ≡ ended))
      ⊎ ((homes ≡ none ∷ []) × (drawn ≡ ended + 1)
      × ((j : ℕ) × (v : Knows E B) × (get_elem? views j ≡ some v) × (v.stage ≡ Inside)))

module _ {V E B : Type 0} (stored : V → List E) (base : V → B) (may_add : B → ℕ → E → Bool) where
  -- b and f are the base and the list of the first value, and n is the number of seats
  pub record Turns (b : B) (f : List E) (n : ℕ) (s : State (Option V) (Knows E B)) : Type 0 where
    pub owners : List ℕ
    pub added : List (List E)
    pub seat_of : ℕ → ℕ
    pub made : ℕ
    pub words_are : length s.words ≡ 2
    pub tickets : slice_index s.words 0 ≡ length owners
    pub served : slice_index s.words 1 ≡ length added
    pub behind : length added ≤ length owners
    pub few : n ≤ 32
    pub within : made ≤ n
    pub shares : sum_by parts_of s.views ≡ n
    pub sum : sum_by drawn_of s.views ≡ length owners
    pub owned : (i number : ℕ) → get_elem? owners i ≡ some number → number < made
    pub each_turn : (i number : ℕ) (entries : List E) → get_elem? owners i ≡ some number →
        get_elem? added i ≡ some entries → IsTurn (may_add b) number entries
    pub each_place : (j k : ℕ) (v : Knows E B) (place : LockSeat E) → get_elem? s.views j ≡ some v →
        get_elem? v.places k ≡ some place → PlaceOk b f owners added seat_of made j v place
    pub each_apart : (j : ℕ) (v : Knows E B) → get_elem? s.views j ≡ some v → AreApart v.places
    pub each_stage : (j : ℕ) (v : Knows E B) → get_elem? s.views j ≡ some v →
        StageOk owners added (f ++ all_added added) v v.stage
    pub each_maker : (j : ℕ) (v : Knows E B) → get_elem? s.views j ≡ some v → 0 < v.spare →
        (j ≡ 0) × (v.next ≡ made) × (made + v.spare ≡ n)
    pub value_is : ValueOk stored base b (f ++ all_added added) (length owners) (length added)
        s.homes s.views
