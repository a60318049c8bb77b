-- Workers in their order and by their kinds.
use Rattle.std.proofs.Common.{◌≡◌, ◌<◌, ℕ, zero, suc, false, List, [], ◌∷◌, ◌++◌, length, get_or}
use Rattle.std.proofs.Common.{take, drop, refl, sym, ap, ◌∙◌, subst, arith}
use Rattle.std.specs.Prelude.{flat_map, map}
use Rattle.std.specs.List.{AllByRecursion, AllZip}
use Rattle.turn_lock.proofs.SeatLists.{changed_whole}
use Rattle.cpu_feeders.specs.inside.FreshWorkers.{in_order}
use Rattle.cpu_feeders.specs.inside.WorkerKinds.{feeder_in, is_full, timer_in, walker_in}
use Rattle.cpu_feeders.specs.Timers.{TimesOut}
use Rattle.cpu_feeders.specs.WorkerEffects.{IsDoneWorker, IsFedOut, IsReadyWorker, IsWalkedOut}
use Rattle.cpu_feeders.specs.declared.feeder.Feeder.{Feeder}
use Rattle.cpu_feeders.specs.declared.timer.Timer.{Timer}
use Rattle.cpu_feeders.specs.declared.walker.ReaderThread.{ReaderThread}
use Rattle.cpu_feeders.specs.declared.worker.Worker.{Worker}
use Rattle.cpu_feeders.specs.declared.worker.Worker.TheVariants.{Walks, Ticks, Feeds}
use Rattle.member_turns.specs.Seats.{Lock}
use Rattle.reader_walk.specs.Takers.{Base}
use Rattle.tp_layout.specs.Layouts.{Taken}
use Rattle.setup_text.specs.declared.jobs.Job.{Job}
use Rattle.ticket_dealer.specs.Seats.{DealerValue}

abbrev pub feeding : {S T : Type 0} → List (Feeder S) → List (Worker S T)
feeding {S = S} {T = T} feeders = map {A = Feeder S} {B = Worker S T} (λ feeder. Feeds feeder) feeders

free_feeders : {S : Type 0} (T : Type 0) (feeders : List (Feeder S))
    → AllByRecursion (λ (w : Worker S T). is_full w ≡ false) (feeding feeders)
    → AllByRecursion (λ (f : Feeder S). f.full ≡ false) feeders
free_feeders T [] all = tt
free_feeders T (feeder ∷ feeders) all = (all.0, free_feeders T feeders all.1)

module _ {S T : Type 0} where
  -- these are the workers of each kind
  pub record AreByKind (walkers : List (ReaderThread T)) (timers : List Timer) (feeders : List (Feeder S))
      (workers : List (Worker S T)) : Type 0 where
    pub walkers_are : flat_map walker_in workers ≡ walkers
    pub timers_are : flat_map timer_in workers ≡ timers
    pub feeders_are : flat_map feeder_in workers ≡ feeders

  feeders_alone : (feeders : List (Feeder S)) → AreByKind [] [] feeders (feeding feeders)
  feeders_alone [] = record { walkers_are = refl; timers_are = refl; feeders_are = refl }
  feeders_alone (feeder ∷ feeders) =
      let rest = feeders_alone feeders in
      record {
        walkers_are = rest.walkers_are;
        timers_are = rest.timers_are;
        feeders_are = ap (λ (fs : List (Feeder S)). feeder ∷ fs) rest.feeders_are;
      }

  pub by_kind : (walkers : List (ReaderThread T)) (timer : Timer) (feeders : List (Feeder S))
      → AreByKind walkers (timer ∷ []) feeders (in_order walkers timer feeders)
  by_kind [] timer feeders =
      let rest = feeders_alone feeders in
      record {
        walkers_are = rest.walkers_are;
        timers_are = ap (λ (ts : List Timer). timer ∷ ts) rest.timers_are;
        feeders_are = rest.feeders_are;
      }
  by_kind (walker ∷ walkers) timer feeders =
      let rest = by_kind walkers timer feeders in
      record {
        walkers_are = ap (λ (ws : List (ReaderThread T)). walker ∷ ws) rest.walkers_are;
        timers_are = rest.timers_are;
        feeders_are = rest.feeders_are;
      }

  -- ---- workers that had enough memory

  abbrev pub AreFree : List (Worker S T) → Type 0
  AreFree workers = AllByRecursion (λ (w : Worker S T). is_full w ≡ false) workers

  pub all_free : (walkers : List (ReaderThread T)) (timer : Timer) (feeders : List (Feeder S))
      → AreFree (in_order walkers timer feeders)
      → AllByRecursion (λ (w : ReaderThread T). w.full ≡ false) walkers × (timer.full ≡ false)
      × AllByRecursion (λ (f : Feeder S). f.full ≡ false) feeders
  all_free [] timer feeders all = (tt, all.0, free_feeders T feeders all.1)
  all_free (walker ∷ walkers) timer feeders all =
      let rest = all_free walkers timer feeders all.1 in ((all.0, rest.0), rest.1, rest.2)

  module _ (base_of : T → Base) (taken_by : T → List Taken) (job : Job) (locks : List Lock) (dealer : DealerValue)
      (moments : List ℕ) where
    abbrev pub Done : Worker S T → Worker S T → Type 0
    Done old new = IsDoneWorker base_of taken_by job locks dealer moments old new

    -- ---- what all workers leave: workers in the same order

    pub record AreDone (old_walkers : List (ReaderThread T)) (old_feeders : List (Feeder S))
        (workers : List (Worker S T)) : Type
        0 where
      pub walkers : List (ReaderThread T)
      pub timer : Timer
      pub feeders : List (Feeder S)
      pub workers_are : workers ≡ in_order walkers timer feeders
      pub walked : AllZip (IsWalkedOut base_of taken_by dealer) old_walkers walkers
      pub ticked : TimesOut moments locks timer
      pub fed : AllZip (IsFedOut job locks dealer) old_feeders feeders

    done_feeders : (old : List (Feeder S)) (new : List (Worker S T)) → AllZip Done (feeding old) new
        → (feeders : List (Feeder S)) × (new ≡ feeding feeders) × AllZip (IsFedOut job locks dealer) old feeders
    done_feeders [] [] all = ([], refl, tt)
    done_feeders [] (n ∷ new) all = absurd all
    done_feeders (o ∷ old) [] all = absurd all
    done_feeders (o ∷ old) (Walks n ∷ new) all = absurd all.0
    done_feeders (o ∷ old) (Ticks n ∷ new) all = absurd all.0
    done_feeders (o ∷ old) (Feeds n ∷ new) all =
        let rest = done_feeders old new all.1 in
        (n ∷ rest.0, ap (λ (ws : List (Worker S T)). Feeds n ∷ ws) rest.1, (all.0, rest.2))

    pub all_done : (walkers : List (ReaderThread T)) (timer : Timer) (feeders : List (Feeder S)) (new : List (Worker S T))
        → AllZip Done (in_order walkers timer feeders) new → AreDone walkers feeders new
    all_done [] timer feeders [] all = absurd all
    all_done [] timer feeders (Walks n ∷ new) all = absurd all.0
    all_done [] timer feeders (Feeds n ∷ new) all = absurd all.0
    all_done [] timer feeders (Ticks n ∷ new) all =
        let rest = done_feeders feeders new all.1 in
        record {
          walkers = [];
          timer = n;
          feeders = rest.0;
          workers_are = ap (λ (ws : List (Worker S T)). Ticks n ∷ ws) rest.1;
          walked = tt;
          ticked = all.0;
          fed = rest.2;
        }
    all_done (o ∷ walkers) timer feeders [] all = absurd all
    all_done (o ∷ walkers) timer feeders (Ticks n ∷ new) all = absurd all.0
    all_done (o ∷ walkers) timer feeders (Feeds n ∷ new) all = absurd all.0
    all_done (o ∷ walkers) timer feeders (Walks n ∷ new) all =
        let rest = all_done walkers timer feeders new all.1 in
        record {
          walkers = n ∷ rest.walkers;
          timer = rest.timer;
          feeders = rest.feeders;
          workers_are = ap (λ (ws : List (Worker S T)). Walks n ∷ ws) rest.workers_are;
          walked = (all.0, rest.walked);
          ticked = rest.ticked;
          fed = rest.fed;
        }

    -- ---- readiness

    ready_feeders : (feeders : List (Feeder S))
        → AllByRecursion (λ (f : Feeder S). IsReadyWorker {S = S} {T = T} base_of taken_by job locks dealer (Feeds f)) feeders
        → AllByRecursion (IsReadyWorker base_of taken_by job locks dealer) (feeding feeders)
    ready_feeders [] all = tt
    ready_feeders (feeder ∷ feeders) all = (all.0, ready_feeders feeders all.1)

    pub all_ready : (walkers : List (ReaderThread T)) (timer : Timer) (feeders : List (Feeder S))
        → AllByRecursion (λ (w : ReaderThread T). IsReadyWorker {S = S} {T = T} base_of taken_by job locks dealer (Walks w))
        walkers
        → IsReadyWorker {S = S} {T = T} base_of taken_by job locks dealer (Ticks timer)
        → AllByRecursion (λ (f : Feeder S). IsReadyWorker {S = S} {T = T} base_of taken_by job locks dealer (Feeds f)) feeders
        → AllByRecursion (IsReadyWorker base_of taken_by job locks dealer) (in_order walkers timer feeders)
    all_ready [] timer feeders walks ticks feeds = (ticks, ready_feeders feeders feeds)
    all_ready (walker ∷ walkers) timer feeders walks ticks feeds =
        (walks.0, all_ready walkers timer feeders walks.1 ticks feeds)

-- a relation at each place is one of the lists
pub zipped : {A : Type 0} (R : A → A → Type 0) (xs ys : List A) → length ys ≡ length xs
    → ((i : ℕ) (d : A) → i < length xs → R (get_or xs i d) (get_or ys i d)) → AllZip R xs ys
zipped R [] [] same each = tt
zipped R [] (y ∷ ys) same each = absurd (omega (arith, same))
zipped R (x ∷ xs) [] same each = absurd (omega (arith, same))
zipped R (x ∷ xs) (y ∷ ys) same each =
    (each zero x (omega arith), zipped R xs ys (omega (arith, same)) (λ i d below. each (suc i) d (omega (arith, below))))

-- a list whose every place was changed, through a slice of its vector
pub worked_through : {A : Type 0} (R : A → A → Type 0) (n : ℕ) (items old new : List A) → old ≡ items → length old ≡ n
    → length new ≡ length old
    → ((i : ℕ) (d : A) → i < length old → R (get_or old i d) (get_or new i d))
    → AllZip R items (take n (new ++ drop (length new) items))
worked_through {A = A} R n items old new same long count each =
    let items_long : length items ≡ n = ap (λ (xs : List A). length xs) (sym same) ∙ long in
    let now_long : length new ≡ length items = count ∙ ap (λ (xs : List A). length xs) same in
    subst (λ (ys : List A). AllZip R items ys) (sym (changed_whole n items new items_long now_long))
    (subst (λ (xs : List A). AllZip R xs new) same (zipped R old new count each))
