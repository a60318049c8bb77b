-- The seats at the members of a run: each member has one for each user, and each user has one at
-- each member.
use Rattle.std.specs.Prelude.{ℕ, zero, suc, ◌+◌, List, [], ◌∷◌, ◌++◌, map}
use Rattle.member_turns.specs.Seats.{Lock, Seat}
use Rattle.turn_lock.specs.Seats.{fresh_seat}

-- each list with one more item at its end, as far as there are items
abbrev pub with_each : {A : Type 0} → List (List A) → List A → List (List A)
with_each [] items = []
with_each (list ∷ lists) [] = list ∷ lists
with_each (list ∷ lists) (item ∷ items) = (list ++ item ∷ []) ∷ with_each lists items

-- and the same for one column of items after another
abbrev pub with_all : {A : Type 0} → List (List A) → List (List A) → List (List A)
with_all lists [] = lists
with_all lists (column ∷ columns) = with_all (with_each lists column) columns

-- the fresh seats of a user at members with these locks
abbrev pub fresh_member_seats : List Lock → ℕ → List Seat
fresh_member_seats locks number = map (λ lock. fresh_seat lock number) locks

-- those of n users, numbered from this number
abbrev pub fresh_users : List Lock → ℕ → ℕ → List (List Seat)
fresh_users locks number zero = []
fresh_users locks number (suc more) =
    fresh_member_seats locks number ∷ fresh_users locks (number + 1) more
