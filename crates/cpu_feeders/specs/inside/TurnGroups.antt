-- The members of a group as the feeder of a CPU uses them, while other threads use them too.
use Rattle.std.specs.Prelude.{◌≡◌, ℕ, ◌+◌, ◌^◌, ◌<◌, ◌≤◌, List, length, slice_index_or}
use Rattle.cpu_feeders.specs.declared.turn_group.TurnGroup.{TurnGroup}
use Rattle.fanout_group.specs.declared.logs.Try.{Try}
use Rattle.member_turns.specs.Seats.{IsReady, Lock, Seat}
use Rattle.member_turns.specs.Tries.{Tried, fates_at}
use Rattle.ring_model.specs.declared.notes.Offer.{Offer}
use Rattle.ticket_dealer.specs.Seats.{DealerValue, IsSeatOf, SeatValue, has_drawn}
use Rattle.tp_layout.specs.Requests.{room_of}
use Rattle.tp_layout.specs.BlockWrites.{IsWritable}

-- a member takes an offer: the feeder has a ready seat of the offer's CPU there, which may put the
-- offer into the member's ring
pub record TakesAt (locks : List Lock) (member_seats : List Seat) (member : ℕ) (offer : Offer)
    : Type 0 where
  pub within : member < length locks
  pub seated : member < length member_seats
  pub ready : (lock : Lock) (member_seat : Seat) →
      IsReady (slice_index_or locks member lock) offer.frame.cpu
      (slice_index_or member_seats member member_seat)
  pub cpu : (lock : Lock) → offer.frame.cpu < (slice_index_or locks member lock).base.cpus
  pub room : (lock : Lock) → 82 + offer.snap ≤ room_of (slice_index_or locks member lock).base.shape
  pub sound : IsWritable offer

-- each seat may be entered this number of times
abbrev pub HasRoom : List Seat → ℕ → Type 0
HasRoom member_seats turns =
    (member : ℕ) (member_seat : Seat) → member < length member_seats →
    (slice_index_or member_seats member member_seat).entered + turns ≤ 2 ^ 32

-- a seat of the dealer that may draw one more ticket
pub record MayDraw (dealer : DealerValue) (seat : SeatValue) : Type 0 where
  pub own : IsSeatOf dealer seat
  pub few : length seat.drawn < 2 ^ 32

-- tries of an offer changed the seats: each has the notes of the tries at its member
pub record AreTried (offer : Offer) (tries : List Try) (locks : List Lock)
    (before after : List Seat)
    : Type 0 where
  pub count : length after ≡ length before
  pub each : (member : ℕ) (lock : Lock) (member_seat : Seat) → member < length before →
      Tried offer (fates_at member tries) (slice_index_or locks member lock)
      (slice_index_or before member member_seat) (slice_index_or after member member_seat)

-- the same members, dealer and seats of the feeder
pub record IsSameGroup {R G : Type 0} (old new : TurnGroup R G) : Type 0 where
  pub members : new.members.now ≡ old.members.now
  pub dealer : new.dealer.now ≡ old.dealer.now
  pub member_seats : new.member_seats.ghost_name ≡ old.member_seats.ghost_name
  pub seat : new.seat.ghost_name ≡ old.seat.ghost_name

-- these tries of an offer, in order, made the second group of the first
pub record HasMade {R G : Type 0} (offer : Offer) (tries : List Try) (old new : TurnGroup R G)
    : Type 0 where
  pub same : IsSameGroup old new
  pub seat_is : new.seat.now ≡ old.seat.now
  pub tried : AreTried offer tries old.members.now old.member_seats.now.items
      new.member_seats.now.items

-- the draw of this ticket made the second group of the first
pub record Draws {R G : Type 0} (ticket : ℕ) (old new : TurnGroup R G) : Type 0 where
  pub same : IsSameGroup old new
  pub seat_is : new.seat.now ≡ has_drawn old.seat.now ticket
  pub member_seats_are : new.member_seats.now.items ≡ old.member_seats.now.items
