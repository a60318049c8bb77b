-- The workers of a run before they start.
use Rattle.std.specs.Prelude.{◌≡◌, ℕ, ◌+◌, List, [], ◌∷◌, ◌++◌, length, map, ⊤, Option, None}
use Rattle.std.specs.List.{AllByRecursion, AllZip}
use Rattle.capture_reports.specs.Closed.{IsLockOf}
use Rattle.capture_reports.specs.Timers.{AreTimed}
use Rattle.cpu_feed.specs.CpuFeeds.{Feeding}
use Rattle.cpu_feeders.specs.Feeds.{IsFreshFeeder, IsFreshSeat}
use Rattle.cpu_feeders.specs.Walks.{Walks}
use Rattle.cpu_feeders.specs.declared.feeder.Feeder.{Feeder}
use Rattle.cpu_feeders.specs.declared.timer.Timer.{Timer}
use Rattle.cpu_feeders.specs.declared.walker.ReaderThread.{ReaderThread}
use Rattle.cpu_feeders.specs.declared.worker.Worker.{Worker}
use Rattle.cpu_feeders.specs.declared.worker.Worker.TheVariants as worker
use Rattle.fanout_group.specs.Paths.{first_path}
use Rattle.fanout_group.specs.Plans.{Shape}
use Rattle.member_turns.specs.Entries.{table_numbers}
use Rattle.member_turns.specs.Seats.{Lock}
use Rattle.reader_walk.specs.Takers.{Base}
use Rattle.tp_layout.specs.Layouts.{Taken}
use Rattle.setup_text.specs.declared.jobs.Job.{Job}
use Rattle.tap_outside.specs.Seen.{SourceSeen}
use Rattle.ticket_dealer.specs.Seats.{DealerValue, IsFreshOf, SeatValue}
use Rattle.tp_layout.specs.declared.requests.RingRequest.{RingRequest}

-- a CPU of this number of which nothing was read
abbrev pub first_feed : Shape → ℕ → Option SourceSeen → Feeding
first_feed plan number first = record {
  number = number;
  first = first;
  bytes = [];
  ended = None;
  fed = 0;
  path = first_path plan;
}

-- those of the sources, numbered from this number
abbrev pub first_feeds : Shape → ℕ → List (Option SourceSeen) → List Feeding
first_feeds plan number [] = []
first_feeds plan number (first ∷ firsts) =
    first_feed plan number first ∷ first_feeds plan (number + 1) firsts

-- readers, a timer and feeders, in this order
abbrev pub in_order : {S T : Type 0} → List (ReaderThread T) → Timer → List (Feeder S)
    → List (Worker S T)
in_order walkers timer feeders =
    map (λ walker. worker.Walks walker) walkers
    ++ worker.Ticks timer ∷ map (λ feeder. worker.Feeds feeder) feeders

-- readers whose members are numbered from this one up
abbrev pub AreNumbered : {T : Type 0} → ℕ → List (ReaderThread T) → Type 0
AreNumbered number [] = ⊤
AreNumbered number (walker ∷ walkers) = (walker.member ≡ number) × AreNumbered (number + 1) walkers

-- a member of a job that has a seat for each CPU and for the timer
pub record IsMemberOf (job : Job) (lock : Lock) : Type 0 where
  pub is_lock : IsLockOf job lock
  pub seats : lock.seats ≡ length job.setup.cpus + 1

-- a reader has the end of the ring of this member
abbrev pub IsReaderAt : {T : Type 0} → Lock → ReaderThread T → Type 0
IsReaderAt lock walker = table_numbers walker.end.id ≡ lock.base.table

-- a reader of blocks of this shape that has read nothing
pub record IsFreshReader {T : Type 0} (base_of : T → Base) (taken_by : T → List Taken)
    (shape : RingRequest) (dealer : DealerValue) (walker : ReaderThread T) : Type 0 where
  pub shape_is : (base_of walker.taker).shape ≡ shape
  pub walks : Walks base_of taken_by (base_of walker.taker) walker
  pub seat : IsFreshOf dealer walker.seat

-- a dealer for n feeders, with a fresh seat for each of them, and nine for others
pub record IsDealt (feeders : ℕ) (dealer : DealerValue) (seats spare : List SeatValue)
    : Type 0 where
  pub feeders_are : dealer.feeders ≡ feeders
  pub count : length seats ≡ feeders
  pub seats_are : AllByRecursion (IsFreshSeat dealer) seats
  pub spare_count : length spare ≡ 9
  pub spare_are : AllByRecursion (IsFreshOf dealer) spare

-- The workers of a job: a reader for each member, with its taker; a timer that has reported
-- nothing; a feeder for each CPU, with its source. The dealer's seats that none of them has are
-- spare.
pub record AreFreshThreads {S T : Type 0} (base_of : T → Base) (taken_by : T → List Taken)
    (job : Job) (firsts : List (Option SourceSeen)) (takers : List T) (locks : List Lock)
    (dealer : DealerValue) (spare : List SeatValue) (workers : List (Worker S T)) : Type 0 where
  pub walkers : List (ReaderThread T)
  pub timer : Timer
  pub feeders : List (Feeder S)
  pub workers_are : workers ≡ in_order walkers timer feeders
  pub sources : length firsts ≡ length job.setup.cpus
  pub count : length locks ≡ job.setup.plan.members
  pub members : AllByRecursion (IsMemberOf job) locks
  pub readers : AllZip IsReaderAt locks walkers
  pub fresh_readers : AllByRecursion (IsFreshReader base_of taken_by job.setup.shape dealer) walkers
  pub takers_are : map (λ walker. walker.taker) walkers ≡ takers
  pub timed : AreTimed [] locks timer.member_seats.items
  pub fresh_feeders : AllByRecursion (IsFreshFeeder job locks dealer) feeders
  pub feeds_are : map (λ feeder. feeder.feed) feeders ≡ first_feeds job.setup.plan 0 firsts
  pub seats : length walkers + length spare ≡ 9
  pub feeder_count : dealer.feeders ≡ length feeders
  pub spare_are : AllByRecursion (IsFreshOf dealer) spare
