-- What a seat of a dealer is to its owner.
use Rattle.std.specs.Prelude.{◌≡◌, ℕ, ◌+◌, ◌≤◌, ◌==◌, nat_lt, if◌then◌else◌, List, [], ◌∷◌, ◌++◌}
use Rattle.std.specs.Prelude.{length, replicate, sum_by, count_by}
use Rattle.std.specs.List.{AllByRecursion}
use Rattle.atomic_table.specs.Seated.{TableId}
use Rattle.ticket_dealer.specs.Tickets.{Rises}

-- What contracts see of a dealer: which it is, and how many feeders it has
pub record DealerValue : Type 0 where
  pub id : TableId
  pub feeders : ℕ

-- What contracts see of a seat: the dealer that it belongs to and its number of feeders, how many
-- calls of `done` are still to come (one from a feeder's seat that has made none) and how many were
-- made, the tickets that it drew, in order, and the number of live feeders that it found the last
-- time
pub record SeatValue : Type 0 where
  pub dealer : TableId
  pub feeders : ℕ
  pub owes : ℕ
  pub ended : ℕ
  pub drawn : List ℕ
  pub live : ℕ

-- what contracts see of a dealer with this table
abbrev pub dealer_of : TableId → ℕ → DealerValue
dealer_of id feeders = record { id = id; feeders = feeders }

-- the seat belongs to the dealer
abbrev pub IsSeatOf : DealerValue → SeatValue → Type 0
IsSeatOf dealer seat = (seat.dealer ≡ dealer.id) × (seat.feeders ≡ dealer.feeders)

-- the seat belongs to the dealer and has drawn nothing
abbrev pub IsFreshOf : DealerValue → SeatValue → Type 0
IsFreshOf dealer seat = IsSeatOf dealer seat × (seat.drawn ≡ [])

-- the seat belongs to the dealer with this table
abbrev pub IsAt : TableId → SeatValue → Type 0
IsAt dealer seat = seat.dealer ≡ dealer

-- the tickets of the seats, one seat's after another's
abbrev pub all_drawn : List SeatValue → List ℕ
all_drawn [] = []
all_drawn (seat ∷ seats) = seat.drawn ++ all_drawn seats

-- a seat as the dealer is made: a feeder's owes one call of `done`
abbrev pub fresh_seat : DealerValue → ℕ → SeatValue
fresh_seat dealer owes = record {
  dealer = dealer.id;
  feeders = dealer.feeders;
  owes = owes;
  ended = 0;
  drawn = [];
  live = dealer.feeders;
}

-- the seats of the feeders, and then nine more
abbrev pub fresh_seats : DealerValue → List SeatValue
fresh_seats dealer =
    replicate dealer.feeders (fresh_seat dealer 1) ++ replicate 9 (fresh_seat dealer 0)

-- it has drawn the ticket
abbrev pub has_drawn : SeatValue → ℕ → SeatValue
has_drawn seat ticket = record seat { drawn = seat.drawn ++ ticket ∷ [] }

-- it has called `done`
abbrev pub has_ended : SeatValue → SeatValue
has_ended seat = record seat { owes = 0; ended = 1 }

-- it has found this number of live feeders
abbrev pub has_seen : SeatValue → ℕ → SeatValue
has_seen seat found = record seat { live = found }

-- the number of live feeders is that of all less the calls of `done` so far, the seat's own among
-- them
abbrev pub AreLive : SeatValue → ℕ → Type 0
AreLive seat found =
    (calls : ℕ) × (found + calls ≡ seat.feeders) × (seat.ended ≤ calls) × (seat.owes ≤ found)

-- how often the ticket is among those of all seats
abbrev pub drawn_times : ℕ → List SeatValue → ℕ
drawn_times ticket seats = sum_by (λ seat. count_by (λ drawn. drawn == ticket) seat.drawn) seats

-- the seat's tickets rise
abbrev pub RisesIn : SeatValue → Type 0
RisesIn seat = Rises 0 seat.drawn

-- the tickets of all seats are the numbers below this one, each once, rising in each seat, and as
-- many in all
pub record AreDealt (seats : List SeatValue) (number : ℕ) : Type 0 where
  pub once : (ticket : ℕ) → drawn_times ticket seats ≡ (if nat_lt ticket number then 1 else 0)
  pub sum : sum_by (λ seat. length seat.drawn) seats ≡ number
  pub rising : AllByRecursion RisesIn seats
