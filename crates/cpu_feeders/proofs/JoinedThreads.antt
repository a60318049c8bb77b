-- Threads of a run whose workers have done what they had to.
use Rattle.std.proofs.Common.{◌≡◌, ◌<◌, ◌++◌, ℕ, List, length, get_or, take, drop, Option, subst}
use Rattle.std.specs.List.{AllZip}
use Rattle.member_turns.specs.Seats.{Lock}
use Rattle.reader_walk.specs.Takers.{Base}
use Rattle.tp_layout.specs.Layouts.{Taken}
use Rattle.setup_text.specs.declared.jobs.Job.{Job}
use Rattle.tap_outside.specs.Seen.{SourceSeen}
use Rattle.ticket_dealer.specs.Seats.{DealerValue, SeatValue}
use Rattle.cpu_feeders.specs.inside.RunThreads.{HaveWorked}
use Rattle.cpu_feeders.specs.inside.FreshWorkers.{AreFreshThreads}
use Rattle.cpu_feeders.specs.WorkerEffects.{IsDoneWorker}
use Rattle.cpu_feeders.specs.declared.worker.Worker.{Worker}
use Rattle.cpu_feeders.proofs.WorkerOrder.{worked_through}

-- the workers were run through a slice of their vector, with the members and the moments as slices
pub have_worked : {S T : Type 0} (base_of : T → Base) (taken_by : T → List Taken) (job : Job) (moments told : List ℕ)
    (firsts : List (Option SourceSeen))
    (takers : List T) (locks members : List Lock) (dealer : DealerValue) (spare : List SeatValue) (count : ℕ)
    (workers old new : List (Worker S T))
    → AreFreshThreads base_of taken_by job firsts takers locks dealer spare workers → told ≡ moments → members ≡ locks
    → old ≡ workers → length old ≡ count
    → length new ≡ length old
    → ((i : ℕ) (d : Worker S T) → i < length old
    → IsDoneWorker base_of taken_by job members dealer told (get_or old i d) (get_or new i d))
    → HaveWorked base_of taken_by job moments firsts takers locks dealer spare (take count (new ++ drop (length new) workers))
have_worked {S = S} {T = T} base_of taken_by job moments told firsts takers locks members dealer spare count workers old new
    fresh_threads told_is members_are same long
    many each =
    let left : List (Worker S T) = take count (new ++ drop (length new) workers) in
    let through : AllZip (IsDoneWorker {S = S} {T = T} base_of taken_by job members dealer told) workers left =
    worked_through (IsDoneWorker {S = S} {T = T} base_of taken_by job members dealer told) count workers old new same
    long many each in
    record {
      before = workers;
      fresh_threads = fresh_threads;
      done = subst (λ (ls : List Lock). AllZip (IsDoneWorker {S = S} {T = T} base_of taken_by job ls dealer moments) workers
          left) members_are
          (subst (λ (ms : List ℕ). AllZip (IsDoneWorker {S = S} {T = T} base_of taken_by job members dealer ms) workers left)
          told_is through);
    }
