-- What threads leave is a group's run.
use Rattle.std.proofs.Common.{◌≡◌, ℕ, zero, suc, ◌+◌, ◌<◌, List, [], ◌∷◌, length, get_or, Option, sym, ap, ◌∙◌, subst, arith}
use Rattle.std.specs.Prelude.{map, All}
use Rattle.std.specs.List.{AllByRecursion}
use Rattle.std.proofs.lemmas.List.{get_or-map, length-map}
use Rattle.std.proofs.lemmas.List.Elements.{All-cons, All-nil}
use Rattle.capture_reports.specs.Seats as runs
use Rattle.capture_reports.specs.Threads.{AreThreads, HaveTickets, logged_at, notes_at}
use Rattle.cpu_feed.specs.ClosedCpus.{AllClose, bytes_of, ends_of}
use Rattle.fanout_group.specs.Arrivals.{somes}
use Rattle.fanout_group.specs.Joined.{AreNotesOf, Logged, attempts_at}
use Rattle.fanout_group.specs.Once.{AreOf, IsGroupReport}
use Rattle.fanout_group.specs.Rules.{Rules}
use Rattle.fanout_group.specs.declared.modes.Mode.TheVariants.{Lb}
use Rattle.fanout_group.specs.declared.runs.CpuLog.{CpuLog}
use Rattle.frame_view.specs.declared.frames.Frame.{Frame}
use Rattle.member_turns.specs.Entries.{may_add, may_note}
use Rattle.member_turns.specs.Closings.{HasOwn}
use Rattle.member_turns.specs.Seats.{Lock, Seat}
use Rattle.ring_model.specs.Ring.{IsWholeRun}
use Rattle.ring_model.specs.declared.notes.Note.{Note}
use Rattle.run_reports.specs.Jobs.{arriving_of, rules_of}
use Rattle.run_reports.specs.Reports.{logged}
use Rattle.run_reports.proofs.ArrivalOrder.{AreNumbered, arrive}
use Rattle.setup_text.specs.declared.jobs.Job.{Job}
use Rattle.tap_outside.specs.Seen.{SourceSeen}
use Rattle.ticket_dealer.specs.Seats.{SeatValue}
use Rattle.tp_layout.specs.Requests.{room_of, size_of}
use Rattle.turn_lock.specs.Histories.{own}
use Rattle.std.proofs.lemmas.List.Elements.{All-get_or}
use Rattle.capture_reports.specs.Closed.{IsLockOf, MemberLeft, locks_of, notes_of_members, rings_of}
use Rattle.capture_reports.specs.Left.{AreLeft, CpuLeft, all_member_seats_at, feeds_of, seats_of}
use Rattle.capture_reports.specs.Reported.{IsGroupRun}
use Rattle.capture_reports.specs.Timers.{IsTicked}
use Rattle.capture_reports.proofs.FedCpus.{AllFed, Fed, all_fed, drawn_are, lawful_at, logged_are, logged_of, logs_are, own_at}
use Rattle.capture_reports.proofs.ClosedMembers.{Counts, IsMemberLeft, Ticks, lock_at, members_left, rings_are, seat_run}
use Rattle.capture_reports.proofs.ClosedMembers.{within_locks}

-- the law of the joint
abbrev pub Joins : Type 0
Joins = (rules : Rules) (room : ℕ) (cpus : List Logged) (seats : List SeatValue) (number : ℕ) (members : List (List Note))
    → AreThreads rules room cpus seats number members → IsGroupReport rules room cpus members

-- the arrivals of a CPU with a log are those that arrive there
arrivals_of_log : (n : ℕ) (arriving : List (List (Option Frame))) (logs : List CpuLog) (cpu : ℕ)
    → AreOf n 0 (somes (get_or arriving cpu []))
    → AreOf n 0 (logged_at (logged arriving logs) cpu).arrivals
arrivals_of_log n [] logs cpu all = tt
arrivals_of_log n (here ∷ arriving) [] cpu all = tt
arrivals_of_log n (here ∷ arriving) (log ∷ logs) zero all = all
arrivals_of_log n (here ∷ arriving) (log ∷ logs) (suc cpu) all = arrivals_of_log n arriving logs cpu all

abbrev notes_in : MemberLeft → List Note
notes_in member = member.notes

module _ (numbered : AreNumbered) (ticks : Ticks) (counts : Counts) (joins : Joins) (job : Job) (moments : List ℕ)
    (cpus : List CpuLeft)
    (members : List MemberLeft) (timer : List Seat) (seats : List SeatValue) (number : ℕ) (nows : List (Option SourceSeen))
    (logs : List CpuLog)
    (left : AreLeft job moments cpus members timer seats number)
    (close : AllClose (feeds_of cpus) nows logs) where
  fed : AllFed job (locks_of members) 0 cpus
  fed = all_fed job (locks_of members) 0 cpus (λ cpu none within.
      let same : cpu ≡ 0 + cpu = omega arith in
      subst (λ (n : ℕ). Fed job (locks_of members) n (get_or cpus cpu none)) same (left.fed cpu none within))

  logged_is : logged (arriving_of job (bytes_of (feeds_of cpus))) logs ≡ map logged_of cpus
  logged_is = logged_are job (locks_of members) 0 cpus nows logs fed close

  cpus_are : length (map logged_of cpus) ≡ length job.setup.cpus
  cpus_are = length-map cpus logged_of ∙ left.cpu_count

  -- the notes of a member, and its lock
  notes_there : (member : ℕ) (none : MemberLeft) → member < length members
      → notes_at (notes_of_members members) member ≡ (get_or members member none).notes
  notes_there member none within = get_or-map notes_in members member none [] within

  lock_there : (member : ℕ) (none : MemberLeft) → member < length members → IsLockOf job (get_or members member none).lock
  lock_there member none within =
      subst (IsLockOf job) (lock_at ticks counts job moments cpus members timer seats number left member none within)
      (All-get_or (IsLockOf job) (locks_of members) member none.lock
      (within_locks ticks counts job moments cpus members timer seats number left member within) left.locks)

  run_at : (member : ℕ) (member_seat : Seat) (none : MemberLeft) → member < length members
      → runs.IsSeatRun (length (map logged_of cpus)) (notes_at (notes_of_members members) member)
  run_at member member_seat none within =
      let closed = left.closed member member_seat none within in
      let lock = lock_there member none within in
      subst (runs.IsSeatRun (length (map logged_of cpus))) (sym (notes_there member none within))
      (seat_run (get_or members member none).lock (length (map logged_of cpus))
      (all_member_seats_at member member_seat cpus timer)
      (get_or members member none).notes (lock.cpus ∙ sym cpus_are) closed.notes)

  abbrev AreOwn : ℕ → ℕ → List Note → Type 0
  AreOwn cpu member mine = AreNotesOf (room_of job.setup.shape) job.setup.mac
      (attempts_at member (logged_at (map logged_of cpus) cpu).arrivals (logged_at (map logged_of cpus) cpu).log) mine

  added_at : (cpu member : ℕ) (member_seat : Seat) (none : MemberLeft) → cpu < length (map logged_of cpus)
      → member < length members
      → AreOwn cpu member (own (may_add (length (map logged_of cpus))) cpu (notes_at (notes_of_members members) member))
  added_at cpu member member_seat none below within =
      let closed = left.closed member member_seat none within in
      let lock = lock_there member none within in
      let notes : List Note = (get_or members member none).notes in
      let same = lock_at ticks counts job moments cpus members timer seats number left member none within in
      let each = subst (λ (l : Lock). AllByRecursion (HasOwn l notes) (all_member_seats_at member member_seat cpus timer))
      (sym same) closed.notes.each_seat in
      let mine : AreOwn cpu member (own (may_note (get_or (locks_of members) member none.lock).base) (0 + cpu) notes) =
      own_at job (locks_of members) 0 cpus cpu member none.lock member_seat notes (get_or timer member member_seat ∷ []) fed
      (subst (λ (n : ℕ). cpu < n) (length-map cpus logged_of) below)
      (within_locks ticks counts job moments cpus members timer seats number left member within) each in
      let here : 0 + cpu ≡ cpu = omega arith in
      let count : (get_or (locks_of members) member none.lock).base.cpus ≡ length (map logged_of cpus) =
      ap (λ (l : Lock). l.base.cpus) same ∙ lock.cpus ∙ sym cpus_are in
      subst (λ (ns : List Note). AreOwn cpu member (own (may_add (length (map logged_of cpus))) cpu ns))
      (sym (notes_there member none within))
      (subst (λ (n : ℕ). AreOwn cpu member (own (may_add n) cpu notes)) count
      (subst (λ (n : ℕ). AreOwn cpu member
      (own (may_note (get_or (locks_of members) member none.lock).base) n notes)) here mine))

  have_tickets : job.setup.plan.mode ≡ Lb → HaveTickets (map logged_of cpus) seats number
  have_tickets lb = record {
    dealt = left.dealt.dealt;
    feeders = seats_of cpus;
    others = left.dealt.others;
    seats_are = left.dealt.seats_are;
    drawn = drawn_are job (locks_of members) 0 cpus fed lb;
    none = left.dealt.none;
  }

  frames_at : (cpu : ℕ) → AreOf cpu 0 (logged_at (map logged_of cpus) cpu).arrivals
  frames_at cpu =
      subst (λ (all : List Logged). AreOf cpu 0 (logged_at all cpu).arrivals) logged_is
      (arrivals_of_log cpu (arriving_of job (bytes_of (feeds_of cpus))) logs cpu
      (arrive numbered job (bytes_of (feeds_of cpus)) cpu))

  -- a member's place is one of its notes' list
  within_notes : (member : ℕ) → member < length (notes_of_members members) → member < length members
  within_notes member within = subst (λ (n : ℕ). member < n) (length-map members notes_in) within

  -- some member and some seat, where there is a member
  some_member : (member : ℕ) (all : List MemberLeft) → member < length all → MemberLeft
  some_member member [] within = absurd (omega (arith, within))
  some_member member (one ∷ all) within = one

  some_member_seat : (member : ℕ) (member_seats : List Seat) → member < length member_seats → Seat
  some_member_seat member [] within = absurd (omega (arith, within))
  some_member_seat member (member_seat ∷ member_seats) within = member_seat

  member_seat_of : (member : ℕ) → member < length members → Seat
  member_seat_of member within = some_member_seat member timer (subst (λ (n : ℕ). member < n) (sym left.timed.count)
      (within_locks ticks counts job moments cpus members timer seats number left member within))

  threads : AreThreads (rules_of job) (room_of job.setup.shape) (map logged_of cpus) seats number (notes_of_members members)
  threads = record {
    some = job.runnable.some_members;
    count = length-map members notes_in ∙ left.member_count;
    frames = frames_at;
    lawful = λ cpu. lawful_at job (locks_of members) 0 cpus cpu fed;
    runs = λ member within. let there = within_notes member within in
        run_at member (member_seat_of member there) (some_member member members there) there;
    added = λ cpu member below within.
        let there = within_notes member within in
        added_at cpu member (member_seat_of member there) (some_member member members there) below there;
    tickets = have_tickets;
  }

  group : IsGroupReport (rules_of job) (room_of job.setup.shape) (logged (arriving_of job (bytes_of (feeds_of cpus))) logs)
      (notes_of_members members)
  group = subst (λ (all : List Logged). IsGroupReport (rules_of job) (room_of job.setup.shape) all (notes_of_members members))
      (sym logged_is)
      (joins (rules_of job) (room_of job.setup.shape) (map logged_of cpus) seats number (notes_of_members members) threads)

  -- a fact about each member's notes
  each_notes : (P : List Note → Type 0) (all : List MemberLeft)
      → ((member : MemberLeft) → IsMemberLeft job moments member → P member.notes)
      → AllByRecursion (IsMemberLeft job moments) all → All P (notes_of_members all)
  each_notes P [] has each = All-nil P
  each_notes P (member ∷ all) has each =
      All-cons P member.notes (notes_of_members all) (has member each.0) (each_notes P all has each.1)

  pub group_run : IsGroupRun job moments (bytes_of (feeds_of cpus)) (ends_of logs) logs (notes_of_members members)
      (rings_of members)
  group_run =
      let each = members_left ticks counts job moments cpus members timer seats number left in
      record {
        logs_are = logs_are job (locks_of members) 0 cpus nows logs fed close;
        group = group;
        runs = each_notes (IsWholeRun (size_of job.setup.shape)) members (λ member one. one.run) each;
        ticked = each_notes (IsTicked moments) members (λ member one. one.ticked) each;
        rings_are = rings_are job moments members each;
      }
