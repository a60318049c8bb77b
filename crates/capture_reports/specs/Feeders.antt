-- What a feeder leaves.
use Rattle.std.specs.Prelude.{◌≡◌, ℕ, ◌<◌, List, length, slice_index_or, IsSome}
use Rattle.cpu_feed.specs.CpuFeeds.{Feeding, frames_in}
use Rattle.fanout_group.specs.Arrivals.{arrivals_of}
use Rattle.fanout_group.specs.Joined.{AreNotesOf, attempts_at, tickets_of}
use Rattle.fanout_group.specs.Paths.{IsPath}
use Rattle.fanout_group.specs.Plans.{has_defrag}
use Rattle.fanout_group.specs.declared.logs.ArrivalLog.{ArrivalLog}
use Rattle.fanout_group.specs.declared.modes.Mode.TheVariants.{Lb}
use Rattle.frame_view.specs.declared.frames.Frame.{Frame}
use Rattle.member_turns.specs.Seats.{IsReady, Lock, Seat, own_of}
use Rattle.run_reports.specs.Jobs.{rules_of}
use Rattle.setup_text.specs.declared.jobs.Job.{Job}
use Rattle.ticket_dealer.specs.Seats.{SeatValue}
use Rattle.tp_layout.specs.Requests.{room_of}

-- the seat of a CPU at a member: it isn't in a turn, and has added one note for each try at the
-- member that the log of these arrivals has, in order
pub record IsFedAt (job : Job) (cpu member : ℕ) (arrivals : List Frame) (log : List ArrivalLog)
    (lock : Lock) (member_seat : Seat) : Type 0 where
  pub ready : IsReady lock cpu member_seat
  pub own : AreNotesOf (room_of job.setup.shape) job.setup.mac
      (attempts_at member arrivals log) (own_of lock member_seat)

-- what arrives with the frames of a CPU's capture, as far as it was read
abbrev pub arrivals_in : Feeding → List Frame
arrivals_in feed = arrivals_of (has_defrag feed.path.shape.flags) (frames_in feed)

-- The feeder of this CPU has fed all frames of its capture and logged what arrived, lawfully; its
-- seats at the members have the notes of the log's tries, and in mode Lb its seat at the dealer
-- drew the log's tickets.
pub record HasFed (job : Job) (locks : List Lock) (cpu : ℕ) (feed : Feeding)
    (member_seats : List Seat) (seat : SeatValue) : Type 0 where
  pub number : feed.number ≡ cpu
  pub shape : feed.path.shape ≡ job.setup.plan
  pub ended : IsSome feed.ended
  pub lawful : IsPath (rules_of job) (frames_in feed) feed.path
  pub count : length member_seats ≡ length locks
  pub each : (member : ℕ) (lock : Lock) (member_seat : Seat) → member < length member_seats →
      IsFedAt job cpu member (arrivals_in feed) feed.path.log
      (slice_index_or locks member lock) (slice_index_or member_seats member member_seat)
  pub tickets : job.setup.plan.mode ≡ Lb → seat.drawn ≡ tickets_of feed.path.log
