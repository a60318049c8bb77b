-- A feeder while it runs.
use Rattle.std.specs.Prelude.{◌≡◌, ℕ, ◌-◌, ◌*◌, ◌<◌, ◌≤◌, List, length, slice_index_or, take}
use Rattle.capture_reports.specs.Feeders.{IsFedAt}
use Rattle.cpu_feed.specs.CpuFeeds.{Feeding, IsAllOfCpu}
use Rattle.cpu_feed.specs.Lawful.{IsLawful}
use Rattle.cpu_feeders.specs.inside.TurnGroups.{HasRoom}
use Rattle.fanout_group.specs.Arrivals.{arrivals_of}
use Rattle.fanout_group.specs.Joined.{tickets_of}
use Rattle.fanout_group.specs.Plans.{has_defrag}
use Rattle.fanout_group.specs.declared.logs.ArrivalLog.{ArrivalLog}
use Rattle.frame_view.specs.declared.frames.Frame.{Frame}
use Rattle.member_turns.specs.Seats.{IsReady, Lock, Seat}
use Rattle.run_reports.specs.Jobs.{rules_of}
use Rattle.setup_text.specs.declared.jobs.Job.{Job}
use Rattle.ticket_dealer.specs.Seats.{DealerValue, IsSeatOf, SeatValue}

-- ---- its seat at the dealer

-- a feeder's seat of this dealer that hasn't called `done` yet
pub record IsDrawing (dealer : DealerValue) (seat : SeatValue) : Type 0 where
  pub own : IsSeatOf dealer seat
  pub owes : seat.owes ≡ 1

-- ---- its seats at the members

-- a ready seat at each member, which may be entered this number of times
pub record AreMemberSeats (cpu turns : ℕ) (locks : List Lock) (member_seats : List Seat)
    : Type 0 where
  pub count : length member_seats ≡ length locks
  pub ready : (member : ℕ) (lock : Lock) (member_seat : Seat) → member < length member_seats →
      IsReady (slice_index_or locks member lock) cpu
      (slice_index_or member_seats member member_seat)
  pub room : HasRoom member_seats turns

-- at each member the seat's own notes are those of the log's attempts
abbrev pub AreFedAt : Job → ℕ → List Frame → List ArrivalLog → List Lock → List Seat → Type 0
AreFedAt job cpu arrivals log locks member_seats =
    (member : ℕ) (lock : Lock) (member_seat : Seat) → member < length member_seats →
    IsFedAt job cpu member arrivals log (slice_index_or locks member lock)
    (slice_index_or member_seats member member_seat)

-- what arrived with the frames that were fed, given all frames of the source
abbrev pub arrived_of : List Frame → Feeding → List Frame
arrived_of all feed = arrivals_of (has_defrag feed.path.shape.flags) (take feed.fed all)

-- ---- between two frames

-- what arrived with the frames so far is logged, and was delivered; a frame takes at most nine
-- turns at a member
pub record Goes (job : Job) (locks : List Lock) (feed : Feeding) (member_seats : List Seat)
    (seat : SeatValue) : Type 0 where
  pub shape : feed.path.shape ≡ job.setup.plan
  pub few : feed.fed ≤ 2097150
  pub member_seats_are : AreMemberSeats feed.number (9 * (2097151 - feed.fed)) locks member_seats
  pub lawful : (all : List Frame) → IsAllOfCpu all feed → IsLawful (rules_of job) all feed
  pub noted : (all : List Frame) → IsAllOfCpu all feed →
      AreFedAt job feed.number (arrived_of all feed) feed.path.log locks member_seats
  pub tickets : seat.drawn ≡ tickets_of feed.path.log
  pub drawn : length seat.drawn ≤ feed.fed
