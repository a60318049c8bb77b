-- The turn history, in a lock's own words: tickets, turns that have ended, and what each seat left.
use Rattle.std.specs.Prelude.{◌≡◌, ◌⊎◌, ℕ, suc, ◌+◌, ◌<◌, ◌≤◌, ◌^◌, Bool, List, [], ◌∷◌, ◌++◌}
use Rattle.std.specs.Prelude.{length, take, slice_index, sum_by, Option, Some}
use mathlib.Core.Option.{some, none}
use mathlib.Core.Option as maybe
use lib.ListN.{get_elem?}
use Rattle.atomic_table.specs.Table.{State}
use Rattle.turn_lock.specs.declared.knowledge.Knows.{Knows}
use Rattle.turn_lock.specs.declared.knowledge.LockSeat.{LockSeat}
use Rattle.turn_lock.specs.declared.knowledge.SeatStage.TheVariants.{Inside}
use Rattle.turn_lock.specs.Histories.{times, all_added, IsTurn, GoesOn}
use Rattle.turn_lock.specs.SeatKnowledge.{drawn_of}

-- A seat that left this list the last time: the list has what the turns added up to the seat's
-- latest one that has ended, and the history continues it by what other seats added
pub record IsLast {E : Type 0} (may_add : ℕ → E → Bool) (first : List E) (owners : List ℕ)
    (added : List (List E)) (number : ℕ) (last : List E) : Type 0 where
  pub turns : ℕ
  pub ended : turns ≤ length added
  pub is : last ≡ first ++ all_added (take turns added)
  pub latest : (i : ℕ) → turns ≡ suc i → get_elem? owners i ≡ some number
  pub none_after : (i : ℕ) → turns ≤ i → i < length added → ¬ (get_elem? owners i ≡ some number)
  pub goes_on : GoesOn may_add number last (first ++ all_added added)

module _ {E B : Type 0} where
  -- the seat j of the table represents, at its place k, this seat of the lock
  abbrev pub RepresentsSeatAt : List (Knows E B) → ℕ → ℕ → Knows E B → LockSeat E → Type 0
  RepresentsSeatAt views j k v place =
      (get_elem? views j ≡ some v) × (get_elem? v.places k ≡ some place)

  -- the seat j of the table represents this seat of the lock
  abbrev pub RepresentsSeat : List (Knows E B) → ℕ → Knows E B → LockSeat E → Type 0
  RepresentsSeat views j v place = (k : ℕ) × RepresentsSeatAt views j k v place

  -- the seat j of the table is in its turn
  abbrev pub IsInside : List (Knows E B) → ℕ → Knows E B → Type 0
  IsInside views j v = (get_elem? views j ≡ some v) × (v.stage ≡ Inside)

module _ {V E B : Type 0} (stored : V → List E) (base : V → B) where
  -- the value is in its slot with the history stored and the first value's base, and nobody has
  -- the ticket that is served; or the seat of that ticket, whose number is the owner, has the value
  abbrev pub HasPlace : B → List E → maybe.Option ℕ → State (Option V) (Knows E B) → Type 0
  HasPlace b history owner table =
      ((x : V) × (table.homes ≡ some (Some x) ∷ []) × (stored x ≡ history) × (base x ≡ b)
      × (owner ≡ none))
      ⊎ ((table.homes ≡ none ∷ []) × ((j : ℕ) × (v : Knows E B) × (place : LockSeat E)
      × IsInside table.views j v × (v.places ≡ place ∷ []) × (owner ≡ some place.number)))

module _ {V E B : Type 0} (stored : V → List E) (base : V → B) (may_add : B → ℕ → E → Bool) where
  -- b and f are the base and the list of the first value, n is the number of seats; `owners` has
  -- the number of each ticket's seat, `added` what each turn that has ended added
  pub record IsHistory (b : B) (f : List E) (n : ℕ) (table : State (Option V) (Knows E B))
      : Type 0 where
    pub owners : List ℕ
    pub added : List (List E)
    -- word 0 counts the tickets, word 1 those that are served to their end
    pub drawn : slice_index table.words 0 ≡ length owners
    pub served : slice_index table.words 1 ≡ length added
    pub behind : length added ≤ length owners
    -- at most one ticket isn't served to its end
    pub one_at_most : length owners ≤ length added + 1
    pub few : length owners ≤ 2 ^ 37
    -- each ticket belongs to one of the seats, which together have them all, and each has few
    pub owned : (i number : ℕ) → get_elem? owners i ≡ some number → number < n
    pub sum : sum_by drawn_of table.views ≡ length owners
    -- each ticket has one seat: a number is at one place of one seat of the table. A seat of the
    -- table that was joined with others has a place for each seat of the lock that was joined into
    -- it
    pub appears_once : (i j k l : ℕ) (v w : Knows E B) (here there : LockSeat E) →
        RepresentsSeatAt table.views i k v here → RepresentsSeatAt table.views j l w there →
        here.number ≡ there.number → (i ≡ j) × (k ≡ l)
    pub each_drew :
        (j : ℕ) (v : Knows E B) (place : LockSeat E) → RepresentsSeat table.views j v place →
        (place.drawn ≡ times place.number owners) × (place.drawn ≤ 2 ^ 32)
    -- a turn that has ended added one entry at most, which its seat may add
    pub each_turn : (i number : ℕ) (entries : List E) → get_elem? owners i ≡ some number →
        get_elem? added i ≡ some entries → IsTurn (may_add b) number entries
    -- a seat has at most one ticket that hasn't ended
    pub each_waits :
        (i j : ℕ) (v : Knows E B) (place : LockSeat E) → RepresentsSeat table.views j v place →
        length added ≤ i → get_elem? owners i ≡ some place.number → v.ticket ≡ i
    -- the value has its place
    pub value_is :
        HasPlace stored base b (f ++ all_added added) (get_elem? owners (length added)) table
    -- what each seat left the last time
    pub each_last :
        (j : ℕ) (v : Knows E B) (place : LockSeat E) → RepresentsSeat table.views j v place →
        IsLast (may_add b) f owners added place.number place.last
    -- no two seats are in their turn at once
    pub one_inside :
        (i j : ℕ) (v w : Knows E B) → IsInside table.views i v → IsInside table.views j w →
        i ≡ j
