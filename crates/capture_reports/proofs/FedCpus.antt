-- The logs of CPUs that were fed to their ends.
use Rattle.std.proofs.Common.{◌≡◌, ℕ, zero, suc, ◌+◌, ◌<◌, List, [], ◌∷◌, ◌++◌, length, get_or, Option, refl, sym, ap, ◌∙◌}
use Rattle.std.proofs.Common.{subst, arith}
use Rattle.std.specs.Prelude.{map, ⊤}
use Rattle.std.specs.List.{AllByRecursion}
use Rattle.capture_file.specs.Capture.{frames_of}
use Rattle.capture_reports.specs.Threads.{logged_at}
use Rattle.cpu_feed.specs.ClosedCpus.{AllClose, bytes_of, ends_of}
use Rattle.cpu_feed.specs.CpuFeeds.{Closes, Feeding, frames_in}
use Rattle.fanout_group.specs.Arrivals.{arrivals_at, arrivals_of}
use Rattle.fanout_group.specs.Joined.{AreNotesOf, Logged, attempts_at, tickets_of}
use Rattle.fanout_group.specs.Logs.{IsLawful}
use Rattle.fanout_group.specs.Plans.{Shape, has_defrag}
use Rattle.fanout_group.specs.declared.logs.ArrivalLog.{ArrivalLog}
use Rattle.fanout_group.specs.declared.modes.Mode.TheVariants.{Lb}
use Rattle.fanout_group.specs.declared.runs.CpuLog.{CpuLog}
use Rattle.frame_view.specs.declared.frames.Frame.{Frame}
use Rattle.member_turns.specs.Closings.{HasOwn}
use Rattle.member_turns.specs.Entries.{may_note}
use Rattle.member_turns.specs.Seats.{Lock, Seat}
use Rattle.ring_model.specs.declared.notes.Note.{Note}
use Rattle.run_reports.specs.Jobs.{captures_from, rules_of}
use Rattle.run_reports.specs.Logs.{AreLogsFrom, IsLogOf}
use Rattle.run_reports.specs.Reports.{logged}
use Rattle.setup_text.specs.declared.jobs.Job.{Job}
use Rattle.tap_outside.specs.Seen.{SourceSeen}
use Rattle.ticket_dealer.specs.Seats.{SeatValue}
use Rattle.tp_layout.specs.Requests.{room_of}
use Rattle.turn_lock.specs.Histories.{own}
use Rattle.capture_reports.specs.Feeders.{HasFed, IsFedAt, arrivals_in}
use Rattle.capture_reports.specs.Left.{CpuLeft, feeds_of, seats_of, member_seats_at}

-- the CPU of this number was fed
abbrev pub Fed : Job → List Lock → ℕ → CpuLeft → Type 0
Fed job locks cpu left = HasFed job locks cpu left.feed left.member_seats left.seat

-- and the same for CPUs with the numbers from this one up
abbrev pub AllFed : Job → List Lock → ℕ → List CpuLeft → Type 0
AllFed job locks at [] = ⊤
AllFed job locks at (left ∷ cpus) = Fed job locks at left × AllFed job locks (at + 1) cpus

pub all_fed : (job : Job) (locks : List Lock) (at : ℕ) (cpus : List CpuLeft)
    → ((cpu : ℕ) (none : CpuLeft) → cpu < length cpus → Fed job locks (at + cpu) (get_or cpus cpu none))
    → AllFed job locks at cpus
all_fed job locks at [] fed = tt
all_fed job locks at (left ∷ cpus) fed =
    let here : at + 0 ≡ at = omega arith in (
      subst (λ (n : ℕ). Fed job locks n left) here (fed zero left (omega arith)),
      all_fed job locks (at + 1) cpus (λ cpu none within.
          let there : at + suc cpu ≡ at + 1 + cpu = omega arith in
          subst (λ (n : ℕ). Fed job locks n (get_or cpus cpu none)) there (fed (suc cpu) none (omega (arith, within)))),
    )

-- ---- the logs

log_of : (cpu : ℕ) (feed : Feeding) (now : Option SourceSeen) (log : CpuLog) → feed.number ≡ cpu → Closes feed now log
    → IsLogOf cpu feed.bytes log.end log
log_of cpu feed now log number closes = record {
  frames = ap (λ (l : CpuLog). l.frames) closes.log_is ∙ ap (λ (n : ℕ). length (frames_of n feed.bytes)) number;
  given = ap (λ (l : CpuLog). l.given) closes.log_is;
  end_is = refl;
}

pub logs_are : (job : Job) (locks : List Lock) (at : ℕ) (cpus : List CpuLeft) (nows : List (Option SourceSeen))
    (logs : List CpuLog)
    → AllFed job locks at cpus → AllClose (feeds_of cpus) nows logs
    → AreLogsFrom at (bytes_of (feeds_of cpus)) (ends_of logs) logs
logs_are job locks at [] [] [] fed close = tt
logs_are job locks at [] [] (log ∷ logs) fed close = absurd close
logs_are job locks at [] (now ∷ nows) logs fed close = absurd close
logs_are job locks at (left ∷ cpus) [] logs fed close = absurd close
logs_are job locks at (left ∷ cpus) (now ∷ nows) [] fed close = absurd close
logs_are job locks at (left ∷ cpus) (now ∷ nows) (log ∷ logs) fed close =
    (log_of at left.feed now log fed.0.number close.0, logs_are job locks (at + 1) cpus nows logs fed.1 close.1)

-- the arrivals of a CPU and its log
abbrev pub logged_of : CpuLeft → Logged
logged_of left = record { arrivals = arrivals_in left.feed; log = left.feed.path.log }

abbrev pub arriving_from : Job → ℕ → List CpuLeft → List (List (Option Frame))
arriving_from job at cpus =
    map (arrivals_at (has_defrag job.setup.plan.flags)) (captures_from at (bytes_of (feeds_of cpus)))

abbrev beside : List Frame → List ArrivalLog → Logged
beside arrivals entries = record { arrivals = arrivals; log = entries }

logged_is : (job : Job) (cpu : ℕ) (feed : Feeding) (now : Option SourceSeen) (log : CpuLog) → feed.number ≡ cpu
    → feed.path.shape ≡ job.setup.plan → Closes feed now log
    → beside (arrivals_of (has_defrag job.setup.plan.flags) (frames_of cpu feed.bytes)) log.arrivals
    ≡ beside (arrivals_in feed) feed.path.log
logged_is job cpu feed now log number shape closes =
    ap (beside (arrivals_of (has_defrag job.setup.plan.flags) (frames_of cpu feed.bytes)))
    (ap (λ (l : CpuLog). l.arrivals) closes.log_is)
    ∙ ap (λ (n : ℕ). beside (arrivals_of (has_defrag job.setup.plan.flags) (frames_of n feed.bytes)) feed.path.log) (sym number)
    ∙ ap (λ (s : Shape). beside (arrivals_of (has_defrag s.flags) (frames_in feed)) feed.path.log) (sym shape)

pub logged_are : (job : Job) (locks : List Lock) (at : ℕ) (cpus : List CpuLeft) (nows : List (Option SourceSeen))
    (logs : List CpuLog)
    → AllFed job locks at cpus → AllClose (feeds_of cpus) nows logs
    → logged (arriving_from job at cpus) logs ≡ map logged_of cpus
logged_are job locks at [] [] [] fed close = refl
logged_are job locks at [] [] (log ∷ logs) fed close = absurd close
logged_are job locks at [] (now ∷ nows) logs fed close = absurd close
logged_are job locks at (left ∷ cpus) [] logs fed close = absurd close
logged_are job locks at (left ∷ cpus) (now ∷ nows) [] fed close = absurd close
logged_are job locks at (left ∷ cpus) (now ∷ nows) (log ∷ logs) fed close =
    ap (λ (one : Logged). one ∷ logged (arriving_from job (at + 1) cpus) logs)
    (logged_is job at left.feed now log fed.0.number fed.0.shape close.0)
    ∙ ap (λ (more : List Logged). logged_of left ∷ more) (logged_are job locks (at + 1) cpus nows logs fed.1 close.1)

-- ---- what they say

pub lawful_at : (job : Job) (locks : List Lock) (at : ℕ) (cpus : List CpuLeft) (cpu : ℕ) → AllFed job locks at cpus
    → IsLawful (rules_of job) (logged_at (map logged_of cpus) cpu).arrivals (logged_at (map logged_of cpus) cpu).log
lawful_at job locks at [] cpu fed = tt
lawful_at job locks at (left ∷ cpus) zero fed = fed.0.lawful.lawful
lawful_at job locks at (left ∷ cpus) (suc cpu) fed = lawful_at job locks (at + 1) cpus cpu fed.1

pub drawn_are : (job : Job) (locks : List Lock) (at : ℕ) (cpus : List CpuLeft) → AllFed job locks at cpus
    → job.setup.plan.mode ≡ Lb
    → map (λ (logged : Logged). tickets_of logged.log) (map logged_of cpus)
    ≡ map (λ (seat : SeatValue). seat.drawn) (seats_of cpus)
drawn_are job locks at [] fed lb = refl
drawn_are job locks at (left ∷ cpus) fed lb =
    ap (λ (tickets : List ℕ). tickets ∷ map (λ (logged : Logged). tickets_of logged.log) (map logged_of cpus))
    (sym (fed.0.tickets lb))
    ∙ ap (λ (more : List (List ℕ)). left.seat.drawn ∷ more) (drawn_are job locks (at + 1) cpus fed.1 lb)

-- the notes of a member that a CPU's seat may add are those of its log's tries there
own_here : (job : Job) (locks : List Lock) (at member : ℕ) (left : CpuLeft) (lock : Lock) (member_seat : Seat)
    (notes : List Note)
    → Fed job locks at left → member < length locks
    → HasOwn (get_or locks member lock) notes (get_or left.member_seats member member_seat)
    → AreNotesOf (room_of job.setup.shape) job.setup.mac (attempts_at member (arrivals_in left.feed) left.feed.path.log)
    (own (may_note (get_or locks member lock).base) at notes)
own_here job locks at member left lock member_seat notes fed within has =
    let there : IsFedAt job at member (arrivals_in left.feed) left.feed.path.log (get_or locks member lock)
    (get_or left.member_seats member member_seat) =
    fed.each member lock member_seat (subst (λ (n : ℕ). member < n) (sym fed.count) within) in
    subst (λ (n : ℕ). AreNotesOf (room_of job.setup.shape) job.setup.mac
    (attempts_at member (arrivals_in left.feed) left.feed.path.log)
    (own (may_note (get_or locks member lock).base) n notes)) there.ready.number_is
    (subst (λ (mine : List Note). AreNotesOf (room_of job.setup.shape) job.setup.mac
    (attempts_at member (arrivals_in left.feed) left.feed.path.log) mine)
    (sym has) there.own)

pub own_at : (job : Job) (locks : List Lock) (at : ℕ) (cpus : List CpuLeft) (cpu member : ℕ) (lock : Lock) (member_seat : Seat)
    (notes : List Note) (rest : List Seat)
    → AllFed job locks at cpus → cpu < length cpus → member < length locks
    → AllByRecursion (HasOwn (get_or locks member lock) notes) (member_seats_at member member_seat cpus ++ rest)
    → AreNotesOf (room_of job.setup.shape) job.setup.mac
    (attempts_at member (logged_at (map logged_of cpus) cpu).arrivals (logged_at (map logged_of cpus) cpu).log)
    (own (may_note (get_or locks member lock).base) (at + cpu) notes)
own_at job locks at [] cpu member lock member_seat notes rest fed below within has = absurd (omega (arith, below))
own_at job locks at (left ∷ cpus) zero member lock member_seat notes rest fed below within has =
    let here : at ≡ at + 0 = omega arith in
    subst (λ (n : ℕ). AreNotesOf (room_of job.setup.shape) job.setup.mac
    (attempts_at member (arrivals_in left.feed) left.feed.path.log)
    (own (may_note (get_or locks member lock).base) n notes)) here
    (own_here job locks at member left lock member_seat notes fed.0 within has.0)
own_at job locks at (left ∷ cpus) (suc cpu) member lock member_seat notes rest fed below within has =
    let there : at + 1 + cpu ≡ at + suc cpu = omega arith in
    subst (λ (n : ℕ). AreNotesOf (room_of job.setup.shape) job.setup.mac
    (attempts_at member (logged_at (map logged_of cpus) cpu).arrivals (logged_at (map logged_of cpus) cpu).log)
    (own (may_note (get_or locks member lock).base) n notes)) there
    (own_at job locks (at + 1) cpus cpu member lock member_seat notes rest fed.1 (omega (arith, below)) within has.1)
