-- The workers of a run after the joins.
use Rattle.std.specs.Prelude.{ℕ, List, Option}
use Rattle.std.specs.List.{AllZip}
use Rattle.cpu_feeders.specs.inside.FreshWorkers.{AreFreshThreads}
use Rattle.cpu_feeders.specs.WorkerEffects.{IsDoneWorker}
use Rattle.cpu_feeders.specs.declared.worker.Worker.{Worker}
use Rattle.member_turns.specs.Seats.{Lock}
use Rattle.reader_walk.specs.Takers.{Base}
use Rattle.tp_layout.specs.Layouts.{Taken}
use Rattle.setup_text.specs.declared.jobs.Job.{Job}
use Rattle.tap_outside.specs.Seen.{SourceSeen}
use Rattle.ticket_dealer.specs.Seats.{DealerValue, SeatValue}

-- workers that were made for a run, and have done what each has to do
pub record HaveWorked {S T : Type 0} (base_of : T → Base) (taken_by : T → List Taken) (job : Job)
    (moments : List ℕ) (firsts : List (Option SourceSeen)) (takers : List T) (locks : List Lock)
    (dealer : DealerValue) (spare : List SeatValue) (workers : List (Worker S T)) : Type 0 where
  pub before : List (Worker S T)
  pub fresh_threads : AreFreshThreads base_of taken_by job firsts takers locks dealer spare before
  pub done : AllZip (IsDoneWorker base_of taken_by job locks dealer moments) before workers
