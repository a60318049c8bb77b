-- What each worker of a run is given, and what it leaves.
use Rattle.std.specs.Prelude.{◌≡◌, ℕ, false, List, []}
use Rattle.capture_reports.specs.Timers.{AreTimed}
use Rattle.cpu_feeders.specs.Feeds.{FeedsOut, HasEnded, IsFreshFeeder}
use Rattle.cpu_feeders.specs.Timers.{TimesOut}
use Rattle.cpu_feeders.specs.Walks.{HasWalked, Walks}
use Rattle.cpu_feeders.specs.declared.feeder.Feeder.{Feeder}
use Rattle.cpu_feeders.specs.declared.walker.ReaderThread.{ReaderThread}
use Rattle.cpu_feeders.specs.declared.worker.Worker.{Worker}
use Rattle.cpu_feeders.specs.declared.worker.Worker.TheVariants as worker
use Rattle.member_turns.specs.Seats.{Lock}
use Rattle.reader_walk.specs.Takers.{Base}
use Rattle.tp_layout.specs.Layouts.{Taken}
use Rattle.setup_text.specs.declared.jobs.Job.{Job}
use Rattle.ticket_dealer.specs.Seats.{DealerValue, IsFreshOf}

-- what a reader leaves: it has walked, and has drawn no ticket
pub record IsWalkedOut {T : Type 0} (base_of : T → Base) (taken_by : T → List Taken)
    (dealer : DealerValue) (old new : ReaderThread T) : Type 0 where
  pub walked : HasWalked base_of taken_by (base_of old.taker) old new
  pub seat : IsFreshOf dealer new.seat

-- what a feeder leaves: it has fed its CPU, unless an allocation failed, and has ended
pub record IsFedOut {S : Type 0} (job : Job) (locks : List Lock) (dealer : DealerValue)
    (old new : Feeder S) : Type 0 where
  pub fed : new.full ≡ false → FeedsOut job locks old new
  pub ended : HasEnded dealer new.seat

module _ {S T : Type 0} (base_of : T → Base) (taken_by : T → List Taken) (job : Job)
    (locks : List Lock) (dealer : DealerValue) where
  -- a worker that has done nothing
  abbrev pub IsReadyWorker : Worker S T → Type 0
  IsReadyWorker (worker.Walks walker) =
      Walks base_of taken_by (base_of walker.taker) walker × IsFreshOf dealer walker.seat
  IsReadyWorker (worker.Ticks timer) = AreTimed [] locks timer.member_seats.items
  IsReadyWorker (worker.Feeds feeder) = IsFreshFeeder job locks dealer feeder

  -- what it leaves, given the moments
  abbrev pub IsDoneWorker : List ℕ → Worker S T → Worker S T → Type 0
  IsDoneWorker moments (worker.Walks old) (worker.Walks new) =
      IsWalkedOut base_of taken_by dealer old new
  IsDoneWorker moments (worker.Ticks old) (worker.Ticks new) = TimesOut moments locks new
  IsDoneWorker moments (worker.Feeds old) (worker.Feeds new) = IsFedOut job locks dealer old new
  IsDoneWorker moments old new = ⊥
