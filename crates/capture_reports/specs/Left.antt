-- What the threads of a run leave once all have been joined and all members closed.
use Rattle.std.specs.Prelude.{◌≡◌, ℕ, ◌<◌, List, [], ◌∷◌, ◌++◌, length, map, slice_index_or, All}
use Rattle.std.specs.List.{AllByRecursion}
use Rattle.capture_reports.specs.Threads.{DrewNone}
use Rattle.cpu_feed.specs.CpuFeeds.{Feeding}
use Rattle.member_turns.specs.Seats.{Seat}
use Rattle.setup_text.specs.declared.jobs.Job.{Job}
use Rattle.ticket_dealer.specs.Seats.{AreDealt, SeatValue}
use Rattle.capture_reports.specs.Closed.{IsClosedOver, IsLockOf, MemberLeft, locks_of}
use Rattle.capture_reports.specs.Feeders.{HasFed}
use Rattle.capture_reports.specs.Timers.{AreTimed}

-- what a feeder left: its CPU, its seats at the members from 0 up, and its seat at the dealer
pub record CpuLeft : Type 0 where
  pub feed : Feeding
  pub member_seats : List Seat
  pub seat : SeatValue

-- the CPUs
abbrev pub feeds_of : List CpuLeft → List Feeding
feeds_of cpus = map (λ cpu. cpu.feed) cpus

-- the feeders' seats at the dealer
abbrev pub seats_of : List CpuLeft → List SeatValue
seats_of cpus = map (λ cpu. cpu.seat) cpus

-- the seats of the CPUs at a member
abbrev pub member_seats_at : ℕ → Seat → List CpuLeft → List Seat
member_seats_at member none cpus = map (λ cpu. slice_index_or cpu.member_seats member none) cpus

-- the seats of the CPUs at a member, and after them the timer's
abbrev pub all_member_seats_at : ℕ → Seat → List CpuLeft → List Seat → List Seat
all_member_seats_at member none cpus timer =
    member_seats_at member none cpus ++ slice_index_or timer member none ∷ []

-- the dealer was closed with these seats: those of the feeders, and others that drew no ticket
pub record HaveDealt (cpus : List CpuLeft) (seats : List SeatValue) (number : ℕ) : Type 0 where
  pub dealt : AreDealt seats number
  pub others : List SeatValue
  pub seats_are : seats ≡ seats_of cpus ++ others
  pub none : AllByRecursion DrewNone others

-- Each CPU of the job was fed to its end, the timer reported all moments to each member, each
-- member was closed with the seats of all CPUs and the timer's, and the dealer with all its seats.
pub record AreLeft (job : Job) (moments : List ℕ) (cpus : List CpuLeft) (members : List MemberLeft)
    (timer : List Seat) (seats : List SeatValue) (number : ℕ) : Type 0 where
  pub cpu_count : length cpus ≡ length job.setup.cpus
  pub member_count : length members ≡ job.setup.plan.members
  pub locks : All (IsLockOf job) (locks_of members)
  pub fed : (cpu : ℕ) (none : CpuLeft) → cpu < length cpus →
      let left = slice_index_or cpus cpu none in
      HasFed job (locks_of members) cpu left.feed left.member_seats left.seat
  pub timed : AreTimed moments (locks_of members) timer
  pub closed : (member : ℕ) (member_seat : Seat) (none : MemberLeft) → member < length members →
      IsClosedOver job.setup.shape (all_member_seats_at member member_seat cpus timer)
      (slice_index_or members member none)
  pub dealt : HaveDealt cpus seats number
