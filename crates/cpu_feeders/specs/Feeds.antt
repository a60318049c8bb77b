-- What a feeder's thread is given, and what it leaves.
use Rattle.std.specs.Prelude.{◌≡◌, ℕ, ◌<◌, false, List, [], length, slice_index_or}
use Rattle.capture_reports.specs.Feeders.{HasFed}
use Rattle.cpu_feeders.specs.declared.feeder.Feeder.{Feeder}
use Rattle.fanout_group.specs.Paths.{first_path}
use Rattle.member_turns.specs.Seats.{IsReady, Lock, Seat, own_of}
use Rattle.setup_text.specs.declared.jobs.Job.{Job}
use Rattle.ticket_dealer.specs.Seats.{DealerValue, IsFreshOf, IsSeatOf, SeatValue}

-- the members of a job's group, with rings of its shape, into which this CPU puts frames too
pub record AreMembersFor (job : Job) (cpu : ℕ) (locks : List Lock) : Type 0 where
  pub count : length locks ≡ job.setup.plan.members
  pub shape : (member : ℕ) (lock : Lock) → member < length locks →
      (slice_index_or locks member lock).base.shape ≡ job.setup.shape
  pub cpu_is : (member : ℕ) (lock : Lock) → member < length locks →
      cpu < (slice_index_or locks member lock).base.cpus

-- a CPU's seat at a member, before its first turn
pub record IsFreshMemberSeat (cpu : ℕ) (lock : Lock) (member_seat : Seat) : Type 0 where
  pub ready : IsReady lock cpu member_seat
  pub entered : member_seat.entered ≡ 0
  pub none : own_of lock member_seat ≡ []

-- a feeder's seat at the dealer, before its first ticket
pub record IsFreshSeat (dealer : DealerValue) (seat : SeatValue) : Type 0 where
  pub fresh : IsFreshOf dealer seat
  pub owes : seat.owes ≡ 1

-- a feeder of one of the job's CPUs that has fed nothing
pub record IsFreshFeeder {S : Type 0} (job : Job) (locks : List Lock) (dealer : DealerValue)
    (feeder : Feeder S) : Type 0 where
  pub full : feeder.full ≡ false
  pub fed : feeder.feed.fed ≡ 0
  pub path : feeder.feed.path ≡ first_path job.setup.plan
  pub members : AreMembersFor job feeder.feed.number locks
  pub count : length feeder.member_seats.items ≡ length locks
  pub each :
      (member : ℕ) (lock : Lock) (member_seat : Seat)
      → member < length feeder.member_seats.items
      →
      IsFreshMemberSeat feeder.feed.number (slice_index_or locks member lock)
      (slice_index_or feeder.member_seats.items member member_seat)
  pub seat : IsFreshSeat dealer feeder.seat

-- a feeder has fed all frames of the source that it was given
pub record FeedsOut {S : Type 0} (job : Job) (locks : List Lock) (before after : Feeder S)
    : Type 0 where
  pub first : after.feed.first ≡ before.feed.first
  pub fed : HasFed job locks before.feed.number after.feed after.member_seats.items after.seat

-- a feeder's seat of this dealer that owes nothing: it has called `done`
pub record HasEnded (dealer : DealerValue) (seat : SeatValue) : Type 0 where
  pub own : IsSeatOf dealer seat
  pub owes : seat.owes ≡ 0
  pub ended : seat.ended ≡ 1
