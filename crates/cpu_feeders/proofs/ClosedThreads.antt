-- Threads that were joined: from what the workers leave to what a run leaves.
use Rattle.std.proofs.Common.{◌≡◌, ◌<◌, ◌+◌, ℕ, false, List, [], ◌∷◌, ◌++◌, length, length-append}
use Rattle.std.proofs.Common.{get_or, append_assoc, Option, refl, sym, ap, ◌∙◌, subst, arith}
use Rattle.std.specs.Prelude.{All, IsSome, flat_map, map, replicate}
use Rattle.std.specs.List.{AllByRecursion, AllZip}
use Rattle.std.proofs.lemmas.List.{length-map}
use Rattle.std.proofs.lemmas.List.Elements.{All-cons, All-nil}
use Rattle.capture_reports.specs.Threads.{DrewNone}
use Rattle.capture_reading.specs.Sources.{AllGave}
use Rattle.capture_reports.specs.Closed.{IsClosedOver, IsLockOf, MemberLeft, locks_of, notes_of_members, rings_of}
use Rattle.capture_reports.specs.Feeders.{HasFed}
use Rattle.capture_reports.specs.Left.{AreLeft, CpuLeft, all_member_seats_at, feeds_of}
use Rattle.capture_reports.specs.Reported.{IsGroupRun}
use Rattle.capture_reports.specs.Timers.{AreTimed}
use Rattle.cpu_feed.specs.ClosedCpus.{AllClose, bytes_of, ends_of, firsts_of}
use Rattle.cpu_feed.specs.CpuFeeds.{Feeding}
use Rattle.fanout_group.specs.declared.runs.CpuLog.{CpuLog}
use Rattle.member_turns.specs.Seats.{Lock, Seat}
use Rattle.reader_walk.specs.Takers.{Base}
use Rattle.tp_layout.specs.Layouts.{Taken}
use Rattle.ring_model.specs.declared.notes.Note.{Note}
use Rattle.ring_words.specs.Pendings.{Pends}
use Rattle.setup_text.specs.declared.jobs.Job.{Job}
use Rattle.tap_outside.specs.Seen.{SourceSeen}
use Rattle.ticket_dealer.specs.Seats.{AreDealt, DealerValue, IsFreshOf, IsSeatOf, SeatValue}
use Rattle.tp_layout.specs.BlockWrites.{ShapedBytes}
use Rattle.cpu_feeders.specs.inside.Closings.{AllAtEnd, AllClosedWith}
use Rattle.cpu_feeders.specs.inside.RunThreads.{HaveWorked}
use Rattle.cpu_feeders.specs.inside.FreshWorkers.{IsMemberOf}
use Rattle.cpu_feeders.specs.inside.WorkerKinds.{feeder_in, timer_in, walker_in}
use Rattle.cpu_feeders.specs.Runs.{AreTakersOf, IsTakerRun}
use Rattle.cpu_feeders.specs.inside.MemberSeats.{with_all}
use Rattle.cpu_feeders.specs.WorkerEffects.{IsDoneWorker, IsFedOut, IsWalkedOut}
use Rattle.cpu_feeders.specs.declared.closed_members.Closed.{Closed}
use Rattle.cpu_feeders.specs.declared.feeder.Feeder.{Feeder}
use Rattle.cpu_feeders.specs.declared.timer.Timer.{Timer}
use Rattle.cpu_feeders.specs.declared.walker.ReaderThread.{ReaderThread}
use Rattle.cpu_feeders.specs.declared.worker.Worker.{Worker}
use Rattle.cpu_feeders.proofs.AllClosed as closed
use Rattle.history.proofs.Lists.{all_append}
use Rattle.cpu_feeders.proofs.AtEnd.{all_at_end, all_back, all_handed_in, columns_of, row_is, rows_of}
use Rattle.cpu_feeders.proofs.FedFeeders as fed
use Rattle.cpu_feeders.proofs.MemberSeatLists.{items_at}
use Rattle.cpu_feeders.proofs.WorkerOrder as order

-- the law about what threads leave, and the one about what sources gave
abbrev pub LeavesGroup : Type 0
LeavesGroup =
    (job : Job) (moments : List ℕ) (cpus : List CpuLeft) (members : List MemberLeft) (timer : List Seat)
    (seats : List SeatValue)
    (number : ℕ) (nows : List (Option SourceSeen)) (logs : List CpuLog)
    → AreLeft job moments cpus members timer seats number
    → AllClose (feeds_of cpus) nows logs
    → IsGroupRun job moments (bytes_of (feeds_of cpus)) (ends_of logs) logs (notes_of_members members) (rings_of members)

abbrev pub LeavesGiven : Type 0
LeavesGiven = (cpus : List Feeding) (nows : List (Option SourceSeen)) (logs : List CpuLog) → AllClose cpus nows logs
    → AllGave (firsts_of cpus) nows (bytes_of cpus) (ends_of logs)

all_of : {A : Type 0} (P : A → Type 0) (xs : List A) → AllByRecursion P xs → All P xs
all_of P [] all = All-nil P
all_of P (x ∷ xs) all = All-cons P x xs all.0 (all_of P xs all.1)

only_locks : (job : Job) (locks : List Lock) → AllByRecursion (IsMemberOf job) locks → AllByRecursion (IsLockOf job) locks
only_locks job [] members = tt
only_locks job (lock ∷ locks) members = (members.0.is_lock, only_locks job locks members.1)

weaker : (P Q : SeatValue → Type 0) (seats : List SeatValue) → ((seat : SeatValue) → P seat → Q seat) → AllByRecursion P seats
    → AllByRecursion Q seats
weaker P Q [] to all = tt
weaker P Q (seat ∷ seats) to all = (to seat all.0, weaker P Q seats to all.1)

-- the seats of a member, as two lists
member_seats_at : {S : Type 0} (member : ℕ) (none : Seat) (feeders : List (Feeder S)) (timer : List Seat)
    → items_at member none (columns_of feeders timer) ≡ all_member_seats_at member none (map fed.left_of feeders) timer
member_seats_at member none [] timer = refl
member_seats_at member none (feeder ∷ feeders) timer =
    ap (λ (member_seats : List Seat). get_or feeder.member_seats.items member none ∷ member_seats)
    (member_seats_at member none feeders timer)

abbrev pub timer_member_seats : Timer → List Seat
timer_member_seats timer = timer.member_seats.items

module _ {S T : Type 0} {base_of : T → Base} {taken_by : T → List Taken} {job : Job} {moments : List ℕ}
    {firsts : List (Option SourceSeen)}
    {takers : List T} {locks : List Lock} {dealer : DealerValue} {spare : List SeatValue} {workers : List (Worker S T)}
    (worked : HaveWorked base_of taken_by job moments firsts takers locks dealer spare workers)
    (free : order.AreFree workers) where
  abbrev pub feeders : List (Feeder S)
  feeders = flat_map feeder_in workers

  abbrev pub walkers : List (ReaderThread T)
  walkers = flat_map walker_in workers

  abbrev pub old_feeders : List (Feeder S)
  old_feeders = worked.fresh_threads.feeders

  abbrev pub old_walkers : List (ReaderThread T)
  old_walkers = worked.fresh_threads.walkers

  -- the workers are still in their order
  pub done : order.AreDone base_of taken_by job locks dealer moments old_walkers old_feeders workers
  done =
      order.all_done base_of taken_by job locks dealer moments old_walkers worked.fresh_threads.timer old_feeders workers
      (subst (λ (ws : List (Worker S T)). AllZip (IsDoneWorker base_of taken_by job locks dealer moments) ws workers)
      worked.fresh_threads.workers_are worked.done)

  kinds : order.AreByKind done.walkers (done.timer ∷ []) done.feeders workers
  kinds =
      subst (λ (ws : List (Worker S T)). order.AreByKind done.walkers (done.timer ∷ []) done.feeders ws) (sym done.workers_are)
      (order.by_kind done.walkers done.timer done.feeders)

  had_memory : AllByRecursion (λ (w : ReaderThread T). w.full ≡ false) done.walkers × (done.timer.full ≡ false)
      × AllByRecursion (λ (f : Feeder S). f.full ≡ false) done.feeders
  had_memory = order.all_free done.walkers done.timer done.feeders
      (subst (λ (ws : List (Worker S T)). order.AreFree ws) done.workers_are free)

  fed_out : AllZip (IsFedOut job locks dealer) old_feeders feeders
  fed_out = subst (λ (fs : List (Feeder S)). AllZip (IsFedOut job locks dealer) old_feeders fs) (sym kinds.feeders_are) done.fed

  walked_out : AllZip (IsWalkedOut base_of taken_by dealer) old_walkers walkers
  walked_out = subst (λ (ws : List (ReaderThread T)). AllZip (IsWalkedOut base_of taken_by dealer) old_walkers ws)
      (sym kinds.walkers_are) done.walked

  walkers_free : AllByRecursion (λ (w : ReaderThread T). w.full ≡ false) walkers
  walkers_free = subst (λ (ws : List (ReaderThread T)). AllByRecursion (λ (w : ReaderThread T). w.full ≡ false) ws)
      (sym kinds.walkers_are)
      had_memory.0

  outs : fed.Outs job locks dealer old_feeders feeders
  outs =
      fed.all_out job locks dealer old_feeders feeders fed_out
      (subst (λ (fs : List (Feeder S)). AllByRecursion (λ (f : Feeder S). f.full ≡ false) fs) (sym kinds.feeders_are)
      had_memory.2)

  abbrev pub timer : Timer
  timer = done.timer

  timed : AreTimed moments locks timer.member_seats.items
  timed = done.ticked had_memory.1

  old_count : length old_feeders ≡ length job.setup.cpus
  old_count =
      sym (length-map old_feeders fed.feed_in) ∙ ap (λ (fs : List Feeding). length fs) worked.fresh_threads.feeds_are
      ∙ fed.firsts_long job.setup.plan 0 firsts ∙ worked.fresh_threads.sources

  pub feeder_count : length feeders ≡ length job.setup.cpus
  feeder_count = fed.outs_long job locks dealer old_feeders feeders outs ∙ old_count

  -- ---- what the calls ask for

  pub feeders_member_seat : {all : List (Feeder S)} {members : ℕ} → all ≡ feeders → members ≡ job.setup.plan.members
      → AllByRecursion (λ (f : Feeder S). length f.member_seats.items ≡ members) all
  feeders_member_seat {members = members} are count =
      subst (λ (fs : List (Feeder S)). AllByRecursion (λ (f : Feeder S). length f.member_seats.items ≡ members) fs) (sym are)
      (subst (λ (n : ℕ). AllByRecursion (λ (f : Feeder S). length f.member_seats.items ≡ n) feeders) (worked.fresh_threads.count
      ∙ sym count)
      (fed.member_seats_long job locks dealer old_feeders feeders outs))

  pub timers_member_seat : {all : List Timer} {members : ℕ} → all ≡ flat_map timer_in workers → members ≡ job.setup.plan.members
      → AllByRecursion (λ (t : Timer). length t.member_seats.items ≡ members) all
  timers_member_seat {members = members} are count =
      subst (λ (ts : List Timer). AllByRecursion (λ (t : Timer). length t.member_seats.items ≡ members) ts)
      (sym (are ∙ kinds.timers_are))
      (timed.count ∙ worked.fresh_threads.count ∙ sym count, tt)

  abbrev pub all_rows : List (List Seat)
  all_rows = rows_of (length locks) feeders timer.member_seats.items

  pub rows_are : {some_feeders : List (Feeder S)} {timers : List Timer} {members : ℕ} {rows : List (List Seat)}
      → some_feeders ≡ feeders
      → timers ≡ flat_map timer_in workers → members ≡ job.setup.plan.members
      → rows ≡ with_all (replicate members []) (map fed.member_seats_in some_feeders ++ map timer_member_seats timers)
      → rows ≡ all_rows
  rows_are {some_feeders = some_feeders} {timers = timers} feeders_are timers_are count are =
      are
      ∙ ap (λ (n : ℕ). with_all (replicate n []) (map fed.member_seats_in some_feeders ++ map timer_member_seats timers))
      (count ∙ sym worked.fresh_threads.count)
      ∙ ap (λ (fs : List (Feeder S)). with_all (replicate (length locks) [])
      (map fed.member_seats_in fs ++ map timer_member_seats timers)) feeders_are
      ∙ ap (λ (ts : List Timer). with_all (replicate (length locks) [])
      (map fed.member_seats_in feeders ++ map timer_member_seats ts)) (timers_are ∙ kinds.timers_are)

  pub at_end : {rows : List (List Seat)} {some_walkers : List (ReaderThread T)} → rows ≡ all_rows → some_walkers ≡ walkers
      → AllAtEnd base_of taken_by locks rows some_walkers
  at_end {rows = rows} rows_is walkers_are =
      subst (λ (ws : List (ReaderThread T)). AllAtEnd base_of taken_by locks rows ws) (sym walkers_are)
      (subst (λ (rs : List (List Seat)). AllAtEnd base_of taken_by locks rs walkers) (sym rows_is)
      (all_at_end base_of taken_by locks all_rows walkers
      (all_handed_in job dealer moments locks old_feeders feeders timer.member_seats.items outs timed
      worked.fresh_threads.members feeder_count)
      (all_back base_of taken_by job dealer locks old_walkers walkers worked.fresh_threads.members worked.fresh_threads.readers
      worked.fresh_threads.fresh_readers
      walked_out walkers_free)))

  pub ended : {cpus : List Feeding} {some_feeders : List (Feeder S)} → some_feeders ≡ feeders
      → cpus ≡ map fed.feed_in some_feeders
      → AllByRecursion (λ (cpu : Feeding). IsSome cpu.ended) cpus
  ended are is =
      subst (λ (cs : List Feeding). AllByRecursion (λ (cpu : Feeding). IsSome cpu.ended) cs)
      (sym (is ∙ ap (λ (fs : List (Feeder S)). map fed.feed_in fs) are))
      (fed.all_ended job locks dealer old_feeders feeders outs)

  abbrev pub all_seats : List (Closed T) → List SeatValue
  all_seats all = (map fed.seat_in feeders ++ map closed.seat_left all) ++ spare

  -- what closed the members closed these, and the dealer is closed with these seats
  pub closings : (all : List (Closed T)) {some_feeders : List (Feeder S)} {some_walkers : List (ReaderThread T)}
      {rows : List (List Seat)} {mine with_readers seats : List SeatValue} → rows ≡ all_rows → some_walkers ≡ walkers
      → AllClosedWith base_of taken_by locks rows some_walkers all → some_feeders ≡ feeders
      → mine ≡ map fed.seat_in some_feeders
      → with_readers ≡ mine ++ map closed.seat_left all → seats ≡ with_readers ++ spare
      → AllClosedWith base_of taken_by locks all_rows walkers all × (seats ≡ all_seats all)
  closings all {some_walkers = some_walkers} rows_is walkers_are over feeders_are mine_is readers_is is = (
    subst (λ (ws : List (ReaderThread T)). AllClosedWith base_of taken_by locks all_rows ws all) walkers_are
        (subst (λ (rs : List (List Seat)). AllClosedWith base_of taken_by locks rs some_walkers all) rows_is over),
    is ∙ ap (λ (ss : List SeatValue). ss ++ spare) readers_is
        ∙ ap (λ (ss : List SeatValue). (ss ++ map closed.seat_left all) ++ spare) mine_is
        ∙ ap (λ (fs : List (Feeder S)). (map fed.seat_in fs ++ map closed.seat_left all) ++ spare) feeders_are,
  )

  -- ---- what is left

  module _ (all : List (Closed T)) (over : AllClosedWith base_of taken_by locks all_rows walkers all) where
    abbrev pub members : List MemberLeft
    members = closed.members_left locks all

    locks_are : locks_of members ≡ locks
    locks_are = closed.locks_are base_of taken_by locks all_rows walkers all over

    others : AllByRecursion (IsFreshOf dealer) (map closed.seat_left all ++ spare)
    others =
        all_append (IsFreshOf dealer) (map closed.seat_left all) spare
        (closed.seats_left base_of taken_by dealer job locks all_rows old_walkers walkers all over walked_out)
        worked.fresh_threads.spare_are

    regroup : all_seats all ≡ map fed.seat_in feeders ++ (map closed.seat_left all ++ spare)
    regroup = append_assoc (map fed.seat_in feeders) (map closed.seat_left all) spare

    pub seats_own : {seats : List SeatValue} → seats ≡ all_seats all → AllByRecursion (IsSeatOf dealer) seats
    seats_own are =
        subst (λ (ss : List SeatValue). AllByRecursion (IsSeatOf dealer) ss) (sym (are ∙ regroup))
        (all_append (IsSeatOf dealer) (map fed.seat_in feeders) (map closed.seat_left all ++ spare)
        (fed.seats_of_dealer job locks dealer old_feeders feeders fed_out)
        (weaker (IsFreshOf dealer) (IsSeatOf dealer) (map closed.seat_left all ++ spare) (λ seat fresh. fresh.0) others))

    pub seats_all : {seats : List SeatValue} → seats ≡ all_seats all → length seats ≡ dealer.feeders + 9
    seats_all are =
        let whole = ap (λ (ss : List SeatValue). length ss) are in
        let one = length-append (map fed.seat_in feeders ++ map closed.seat_left all) spare in
        let two = length-append (map fed.seat_in feeders) (map closed.seat_left all) in
        let three = length-map feeders fed.seat_in in
        let four = closed.seats_many base_of taken_by dealer job locks all_rows old_walkers walkers all over walked_out in
        let five = worked.fresh_threads.seats in
        let six = worked.fresh_threads.feeder_count in
        let seven = fed.outs_long job locks dealer old_feeders feeders outs in
        omega (arith, whole, one, two, three, four, five, six, seven)

    members_long : length members ≡ length locks
    members_long = sym (length-map members (λ (member : MemberLeft). member.lock))
        ∙ ap (λ (ls : List Lock). length ls) locks_are

    fed_at : (cpu : ℕ) (none : CpuLeft) → cpu < length (map fed.left_of feeders)
        → let left = get_or (map fed.left_of feeders) cpu none in HasFed job locks cpu left.feed left.member_seats left.seat
    fed_at cpu none within =
        let from : 0 + cpu ≡ cpu = omega arith in
        let left = get_or (map fed.left_of feeders) cpu none in
        subst (λ (number : ℕ). HasFed job locks number left.feed left.member_seats left.seat) from
        (fed.all_fed job locks dealer job.setup.plan 0 firsts old_feeders feeders worked.fresh_threads.feeds_are outs cpu none
        within)

    closed_at : (member : ℕ) (member_seat : Seat) (none : MemberLeft) → member < length members
        → IsClosedOver job.setup.shape
        (all_member_seats_at member member_seat (map fed.left_of feeders) timer.member_seats.items) (get_or members member none)
    closed_at member member_seat none within =
        let long = members_long in
        let there : member < length locks = omega (arith, within, long) in
        subst (λ (member_seats : List Seat). IsClosedOver job.setup.shape member_seats (get_or members member none))
        (row_is job dealer moments locks old_feeders feeders timer.member_seats.items outs timed member [] member_seat there
        ∙ member_seats_at member member_seat feeders timer.member_seats.items)
        (closed.closed_over base_of taken_by job locks all_rows walkers all over worked.fresh_threads.members member [] none
        within)

    left : (number : ℕ) (seats : List SeatValue) → seats ≡ all_seats all → AreDealt seats number
        → AreLeft job moments (map fed.left_of feeders) members timer.member_seats.items seats number
    left number seats are dealt = record {
      cpu_count = fed.lefts_long feeders ∙ feeder_count;
      member_count = members_long ∙ worked.fresh_threads.count;
      locks = subst (λ (ls : List Lock). All (IsLockOf job) ls) (sym locks_are)
          (all_of (IsLockOf job) locks (only_locks job locks worked.fresh_threads.members));
      fed = λ cpu none within.
          let one = get_or (map fed.left_of feeders) cpu none in
          subst (λ (ls : List Lock). HasFed job ls cpu one.feed one.member_seats one.seat) (sym locks_are)
          (fed_at cpu none within);
      timed = subst (λ (ls : List Lock). AreTimed moments ls timer.member_seats.items) (sym locks_are) timed;
      closed = closed_at;
      dealt = record {
        dealt = dealt;
        others = map closed.seat_left all ++ spare;
        seats_are = are ∙ regroup ∙ ap (λ (ss : List SeatValue). ss ++ (map closed.seat_left all ++ spare))
            (sym (fed.seats_are feeders));
        none = weaker (IsFreshOf dealer) DrewNone (map closed.seat_left all ++ spare) (λ seat fresh. fresh.1) others;
      };
    }

    firsts_same : firsts_of (feeds_of (map fed.left_of feeders)) ≡ firsts
    firsts_same =
        ap (λ (cs : List Feeding). firsts_of cs) (fed.feeds_are feeders)
        ∙ fed.same_firsts job locks dealer old_feeders feeders outs
        ∙ ap (λ (cs : List Feeding). firsts_of cs) worked.fresh_threads.feeds_are ∙ fed.firsts_are job.setup.plan 0 firsts

    -- what the run leaves
    pub taker_run : LeavesGroup → LeavesGiven → closed.ReadsNotes base_of taken_by dealer job
        → {number : ℕ} {seats : List SeatValue}
        {cpus : List Feeding} {nows : List (Option SourceSeen)} {logs : List CpuLog} → seats ≡ all_seats all
        → AreDealt seats number
        → cpus ≡ map fed.feed_in feeders → AllClose cpus nows logs
        → IsTakerRun base_of taken_by job moments firsts takers nows (map closed.taker_left all) logs (map closed.notes_in all)
        (map closed.ring_in all)
    taker_run group gave reads {number = number} {seats = seats} {nows = nows} {logs = logs} are dealt cpus_are close =
        let lefts : List CpuLeft = map fed.left_of feeders in
        let closes : AllClose (feeds_of lefts) nows logs = subst (λ (cs : List Feeding). AllClose cs nows logs)
        (cpus_are ∙ sym (fed.feeds_are feeders)) close in
        let run : IsGroupRun job moments (bytes_of (feeds_of lefts)) (ends_of logs) logs (notes_of_members members)
        (rings_of members) =
        group job moments lefts members timer.member_seats.items seats number nows logs (left number seats are dealt)
        closes in
        record {
          bytes = bytes_of (feeds_of lefts);
          ends = ends_of logs;
          gave = subst (λ (fs : List (Option SourceSeen)). AllGave fs nows (bytes_of (feeds_of lefts)) (ends_of logs))
              firsts_same
              (gave (feeds_of lefts) nows logs closes);
          run = subst (λ (rings : List (Pends ShapedBytes)). IsGroupRun job moments (bytes_of (feeds_of lefts)) (ends_of logs)
              logs (map closed.notes_in all) rings)
              (closed.rings_are base_of taken_by locks all_rows walkers all over)
              (subst (λ (notes : List (List Note)). IsGroupRun job moments (bytes_of (feeds_of lefts)) (ends_of logs) logs notes
              (rings_of members))
              (closed.notes_are base_of taken_by locks all_rows walkers all over) run);
          takers = subst (λ (before : List T). AreTakersOf base_of taken_by job.setup.shape (map closed.notes_in all) before
              (map closed.taker_left all))
              worked.fresh_threads.takers_are
              (closed.takers_left base_of taken_by dealer job reads locks all_rows old_walkers walkers all over
              worked.fresh_threads.members
              worked.fresh_threads.fresh_readers walked_out);
        }
