-- What a seat of a dealer is to its owner, by what it knows at the table.
use Rattle.std.specs.Prelude.{◌≡◌, ◌+◌, ◌≤◌, []}
use Rattle.atomic_table.specs.declared.shared.Seat.{Seat}
use Rattle.ticket_dealer.specs.declared.knowledge.Hand.{Hand}
use Rattle.ticket_dealer.specs.Seats.{SeatValue}
use Rattle.ticket_dealer.specs.Tickets.{Rises}

-- what its owner sees
abbrev pub seat_value : Seat (Unit {0}) Hand → SeatValue
seat_value s = record {
  dealer = s.table_id;
  feeders = s.me.0.feeders;
  owes = s.me.0.owes;
  ended = s.me.0.ended;
  drawn = s.me.0.drawn;
  live = s.me.0.live;
}

-- it represents one of the dealer's seats, which makes one call of `done` at most, and its tickets
-- rise
pub record IsSeat (s : Seat (Unit {0}) Hand) : Type 0 where
  pub one : s.me.0.shares ≡ 1
  pub once : s.me.0.owes + s.me.0.ended ≤ 1
  pub rises : Rises 0 s.me.0.drawn
  pub holds_none : s.me.1 ≡ []
