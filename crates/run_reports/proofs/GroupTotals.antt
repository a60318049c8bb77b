-- The arrivals of a run are those that the filter refused, and those that its members' notes keep
-- or drop: for a group, whatever its rings, and for a report whose statistics count what notes keep
-- and drop.
use Rattle.std.proofs.Common.{◌≡◌, ℕ, zero, suc, ◌+◌, ◌-◌, ◌<◌, ◌≤◌, Bool, true, false, cond, not, ◌&&◌, eqb, ltb, List, []}
use Rattle.std.proofs.Common.{◌∷◌, ◌++◌, length, get_or, inl, inr, refl, sym, ap, subst, ◌∙◌, arith}
use Rattle.std.specs.Prelude.{Option, count_by, sum_by}
use Rattle.std.proofs.lemmas.Bool.{cases_lt, eq-eqb, lt-ltb}
use Rattle.std.proofs.lemmas.List.Sums.{sum_by-cons, sum_by-append}
use Rattle.frame_view.specs.declared.frames.Frame.{Frame}
use Rattle.ring_model.specs.Fates.{drops_of, frame_note, frame_notes, kept_of}
use Rattle.ring_model.specs.declared.notes.Note.{Note}
use Rattle.ring_model.specs.declared.notes.Note.TheVariants.{Kept, Refused, Dropped, Ticked, Counted, Finished}
use Rattle.fanout_group.specs.Joined.{Attempt, AreNotesOf, IsNoteOf, Logged, attempts_at, attempts_in, nothing_logged}
use Rattle.fanout_group.specs.Logs.{IsLawfulFrom}
use Rattle.fanout_group.specs.Once.{IsGroupReport}
use Rattle.fanout_group.specs.Routes.{present_after}
use Rattle.fanout_group.specs.Rules.{Rules}
use Rattle.fanout_group.specs.declared.logs.ArrivalLog.{ArrivalLog}
use Rattle.fanout_group.specs.declared.logs.Fate.{Fate}
use Rattle.fanout_group.specs.declared.logs.Try.{Try}
use Rattle.fanout_group.proofs.Members.{one_if, sum_below, sum_below-add, sum_below-at, sum_below-same, sum_below-zero}
use Rattle.fanout_group.proofs.Members.{sum_by-below}
use Rattle.fanout_group.proofs.RouteBounds.{present_is_member, settles_in, tries_end}
use Rattle.fanout_group.proofs.SettledNotes.{is_settled}
use Rattle.std.proofs.lemmas.List.{get_or_past, length-map}
use Rattle.capture_file.specs.declared.cpu_end.CpuEnd.{CpuEnd}
use Rattle.fanout_group.specs.Arrivals.{arrivals_at, somes}
use Rattle.fanout_group.specs.Plans.{has_defrag}
use Rattle.fanout_group.specs.declared.runs.CpuLog.{CpuLog}
use Rattle.ring_model.specs.declared.notes.Stats.{Stats}
use Rattle.run_reports.specs.Jobs.{arriving_of, captures_from, rules_of}
use Rattle.run_reports.specs.Logs.{AreLogsFrom}
use Rattle.run_reports.specs.Reports.{logged, notes_of}
use Rattle.run_reports.specs.Totals.{TotalsAddUp, drops_in, kept_in}
use Rattle.run_reports.proofs.ArrivalOrder.{count_from}
use Rattle.setup_text.specs.declared.jobs.Job.{Job}
use Rattle.run_reports.specs.declared.reports.MemberReport.{MemberReport}
use Rattle.run_reports.specs.declared.reports.RunReport.{RunReport}

abbrev pub settled : Note → ℕ
settled (Kept offer found) = 1
settled (Dropped cpu index need number) = 1
settled (Refused cpu index need number) = 0
settled (Ticked ms found) = 0
settled Counted = 0
settled Finished = 0

pub kept_and_dropped : (notes : List Note) → sum_by settled notes ≡ length (kept_of notes) + length (drops_of notes)
kept_and_dropped [] = refl
kept_and_dropped (Kept offer found ∷ notes) =
    omega (arith, sum_by-cons settled (Kept offer found) notes, kept_and_dropped notes)
kept_and_dropped (Dropped cpu index need number ∷ notes) =
    omega (arith, sum_by-cons settled (Dropped cpu index need number) notes, kept_and_dropped notes)
kept_and_dropped (Refused cpu index need number ∷ notes) =
    omega (arith, sum_by-cons settled (Refused cpu index need number) notes, kept_and_dropped notes)
kept_and_dropped (Ticked ms found ∷ notes) = omega (arith, sum_by-cons settled (Ticked ms found) notes, kept_and_dropped notes)
kept_and_dropped (Counted ∷ notes) = omega (arith, sum_by-cons settled Counted notes, kept_and_dropped notes)
kept_and_dropped (Finished ∷ notes) = omega (arith, sum_by-cons settled Finished notes, kept_and_dropped notes)

-- ---- the notes of a member, CPU by CPU

-- no note is about a CPU from this number on
abbrev NoneFrom : ℕ → (ℕ → List Note) → Type 0
NoneFrom count of = (cpu : ℕ) → count ≤ cpu → of cpu ≡ []

at_one : (note : Note) (here : Bool) → settled note ≡ 1 → sum_by settled (cond here (note ∷ []) []) ≡ cond here 1 0
at_one note true e = omega (arith, e)
at_one note false e = refl

there : (note : Note) (here : Bool) → here ≡ true → cond here (note ∷ []) [] ≡ [] → ⊥
there note true e none = cc
there note false e none = cc

by_cpu : (count of : ℕ) (note : Note) → settled note ≡ 1 → NoneFrom count (λ cpu. cond (eqb of cpu) (note ∷ []) [])
    → 1 ≡ sum_below (λ cpu. sum_by settled (cond (eqb of cpu) (note ∷ []) [])) count
by_cpu count of note e none =
    let all = sum_below-same (λ cpu. sum_by settled (cond (eqb of cpu) (note ∷ []) [])) (λ cpu. cond (eqb of cpu) 1 0) count
    (λ cpu below. at_one note (eqb of cpu) e) in
    let settled_once = sum_below-at of 1 count in
    elim (cases_lt of count) [
      | inl below ↦ sym (all ∙ settled_once ∙ ap (λ b. cond b 1 0) (lt-ltb of count below))
      | inr past ↦ absurd (there note (eqb of of) (eq-eqb of of refl) (none of past))
    ]

nothing_in : (note : Note) (here : Bool) → settled note ≡ 0 → sum_by settled (cond here (note ∷ []) []) ≡ 0
nothing_in note true e = omega (arith, e)
nothing_in note false e = refl

silent : (count : ℕ) (note : Note) (here : ℕ → Bool) → settled note ≡ 0
    → 0 ≡ sum_below (λ cpu. sum_by settled (cond (here cpu) (note ∷ []) [])) count
silent count note here e =
    sym (sum_below-same (λ cpu. sum_by settled (cond (here cpu) (note ∷ []) [])) (λ cpu. 0) count
    (λ cpu below. nothing_in note (here cpu) e)
    ∙ sum_below-zero count)

one_note : (count : ℕ) (note : Note) → NoneFrom count (λ cpu. frame_note cpu note)
    → settled note ≡ sum_below (λ cpu. sum_by settled (frame_note cpu note)) count
one_note count (Kept offer found) none = by_cpu count offer.frame.cpu (Kept offer found) refl none
one_note count (Dropped of index need number) none = by_cpu count of (Dropped of index need number) refl none
one_note count (Refused of index need number) none = silent count (Refused of index need number) (λ cpu. eqb of cpu) refl
one_note count (Ticked ms found) none = sym (sum_below-zero count)
one_note count Counted none = sym (sum_below-zero count)
one_note count Finished none = sym (sum_below-zero count)

front_none : (xs ys : List Note) → xs ++ ys ≡ [] → xs ≡ []
front_none [] ys e = refl
front_none (x ∷ xs) ys e = cc

back_none : (xs ys : List Note) → xs ++ ys ≡ [] → ys ≡ []
back_none [] ys e = e
back_none (x ∷ xs) ys e = cc

all_notes : (count : ℕ) (notes : List Note) → NoneFrom count (λ cpu. frame_notes cpu notes)
    → sum_by settled notes ≡ sum_below (λ cpu. sum_by settled (frame_notes cpu notes)) count
all_notes count [] none = sym (sum_below-zero count)
all_notes count (note ∷ notes) none =
    let first = one_note count note (λ cpu past. front_none (frame_note cpu note) (frame_notes cpu notes) (none cpu past)) in
    let rest = all_notes count notes (λ cpu past. back_none (frame_note cpu note) (frame_notes cpu notes) (none cpu past)) in
    let here : ℕ → ℕ = λ cpu. sum_by settled (frame_note cpu note) in
    let later : ℕ → ℕ = λ cpu. sum_by settled (frame_notes cpu notes) in
    let split = sum_below-same (λ cpu. sum_by settled (frame_note cpu note ++ frame_notes cpu notes))
    (λ cpu. here cpu + later cpu) count
    (λ cpu below. sum_by-append settled (frame_note cpu note) (frame_notes cpu notes)) in
    let added = sum_below-add here later count in
    omega (arith, sum_by-cons settled note notes, first, rest, split, added)

-- ---- the notes of a CPU at a member are those of its tries there

-- 1 where a try keeps or drops its packet
abbrev attempt_settles : Attempt → ℕ
attempt_settles attempt = one_if (is_settled attempt.fate)

noted_so : (room : ℕ) (own : Option (List ℕ)) (attempt : Attempt) (note : Note) → IsNoteOf room own attempt note
    → settled note ≡ attempt_settles attempt
noted_so room own attempt (Kept offer found) h = sym (ap (λ (f : Fate). one_if (is_settled f)) h.0)
noted_so room own attempt (Refused cpu index need number) h = sym (ap (λ (f : Fate). one_if (is_settled f)) h.0)
noted_so room own attempt (Dropped cpu index need number) h = sym (ap (λ (f : Fate). one_if (is_settled f)) h.0)
noted_so room own attempt (Ticked ms found) h = absurd h
noted_so room own attempt Counted h = absurd h
noted_so room own attempt Finished h = absurd h

by_tries : (room : ℕ) (own : Option (List ℕ)) (attempts : List Attempt) (notes : List Note) → AreNotesOf room own attempts notes
    → sum_by settled notes ≡ sum_by attempt_settles attempts
by_tries room own [] [] h = refl
by_tries room own [] (note ∷ notes) h = absurd h
by_tries room own (attempt ∷ attempts) [] h = absurd h
by_tries room own (attempt ∷ attempts) (note ∷ notes) h =
    let first = noted_so room own attempt note h.0 in
    let rest = by_tries room own attempts notes h.1 in
    omega (arith, first, rest, sum_by-cons settled note notes, sum_by-cons attempt_settles attempt attempts)

no_notes : (room : ℕ) (own : Option (List ℕ)) (notes : List Note) → AreNotesOf room own [] notes → notes ≡ []
no_notes room own [] h = refl
no_notes room own (note ∷ notes) h = absurd h

-- ---- the tries of an entry keep or drop its packet once, unless the filter refused it

abbrev attempt_of : Frame → ArrivalLog → Try → Attempt
attempt_of frame entry t = record { frame = frame; hash = entry.hash; verdict = entry.verdict; fate = t.fate }

one_try : (attempt : Attempt) (here : Bool) → sum_by attempt_settles (cond here (attempt ∷ []) [])
    ≡ cond here (attempt_settles attempt) 0
one_try attempt true = omega arith
one_try attempt false = refl

within : (fate below : Bool) → cond below (one_if fate) 0 ≡ one_if (fate && below)
within true true = refl
within true false = refl
within false true = refl
within false false = refl

module _ (members : ℕ) (frame : Frame) (entry : ArrivalLog) where
  abbrev tried : List Try → ℕ → ℕ
  tried tries k = sum_by attempt_settles (attempts_in k frame entry tries)

  tries_split : (t : Try) (tries : List Try) → sum_below (tried (t ∷ tries)) members
      ≡ cond (ltb t.member members) (attempt_settles (attempt_of frame entry t)) 0 + sum_below (tried tries) members
  tries_split t tries =
      let attempt = attempt_of frame entry t in
      let here : ℕ → ℕ = λ k. cond (eqb t.member k) (attempt_settles attempt) 0 in
      sum_below-same (tried (t ∷ tries)) (λ k. here k + tried tries k) members (λ k below.
      sum_by-append attempt_settles (cond (eqb t.member k) (attempt ∷ []) []) (attempts_in k frame entry tries)
      ∙ ap (λ n. n + tried tries k) (one_try attempt (eqb t.member k)))
      ∙ sum_below-add here (tried tries) members
      ∙ ap (λ n. n + sum_below (tried tries) members) (sum_below-at t.member (attempt_settles attempt) members)

  entry_settles : (tries : List Try) → sum_below (tried tries) members ≡ sum_by (settles_in members) tries
  entry_settles [] = sum_below-zero members
  entry_settles (t ∷ tries) =
      let first = within (is_settled t.fate) (ltb t.member members) in
      omega (arith, first, tries_split t tries, sum_by-cons (settles_in members) t tries, entry_settles tries)

-- 1 where the filter passes the arrival of an entry
abbrev passed : ArrivalLog → ℕ
passed entry = one_if (not (eqb entry.verdict 0))

log_settles : (rules : Rules) (present : ℕ) (frames : List Frame) (log : List ArrivalLog) → 0 < rules.members
    → present < rules.members
    → IsLawfulFrom rules present frames log
    → sum_below (λ k. sum_by attempt_settles (attempts_at k frames log)) rules.members ≡ sum_by passed log
log_settles rules present [] [] some at lawful = sum_below-zero rules.members
log_settles rules present [] (entry ∷ log) some at lawful = absurd lawful
log_settles rules present (frame ∷ frames) [] some at lawful = absurd lawful
log_settles rules present (frame ∷ frames) (entry ∷ log) some at lawful =
    let is = lawful.0 in
    let after = present_after rules.mode present entry.tries in
    let here : ℕ → ℕ = λ k. sum_by attempt_settles (attempts_in k frame entry entry.tries) in
    let later : ℕ → ℕ = λ k. sum_by attempt_settles (attempts_at k frames log) in
    let first = entry_settles rules.members frame entry entry.tries in
    let once = (tries_end rules present frame entry some at is).settles in
    let rest = log_settles rules after frames log some (present_is_member rules present frame entry some at is) lawful.1 in
    let split = sum_below-same (λ k. sum_by attempt_settles (attempts_in k frame entry entry.tries ++ attempts_at k frames log))
    (λ k. here k + later k) rules.members
    (λ k below. sum_by-append attempt_settles (attempts_in k frame entry entry.tries) (attempts_at k frames log)) in
    omega (arith, split, sum_below-add here later rules.members, first, once, rest, sum_by-cons passed entry log)

-- ---- a log has the entries that the filter refused and those that it passed

abbrev is_ended : ArrivalLog → Bool
is_ended entry = eqb entry.verdict 0

ended_or_passed : (ended : Bool) → cond ended 1 0 + one_if (not ended) ≡ 1
ended_or_passed true = refl
ended_or_passed false = refl

log_counts : (log : List ArrivalLog) → length log ≡ count_by is_ended log + sum_by passed log
log_counts [] = refl
log_counts (entry ∷ log) =
    let one = ended_or_passed (is_ended entry) in
    omega (
      arith,
      one,
      sum_by-cons (λ (e : ArrivalLog). cond (is_ended e) 1 0) entry log,
      sum_by-cons passed entry log,
      log_counts log,
    )

logs_count : (cpus : List Logged) → sum_by (λ logged. length logged.log) cpus
    ≡ sum_by (λ logged. count_by is_ended logged.log) cpus + sum_by (λ logged. sum_by passed logged.log) cpus
logs_count [] = refl
logs_count (logged ∷ cpus) =
    omega (
      arith,
      log_counts logged.log,
      logs_count cpus,
      sum_by-cons (λ (l : Logged). length l.log) logged cpus,
      sum_by-cons (λ (l : Logged). count_by is_ended l.log) logged cpus,
      sum_by-cons (λ (l : Logged). sum_by passed l.log) logged cpus,
    )

-- ---- all members and all CPUs

swap : (f : ℕ → ℕ → ℕ) (m n : ℕ) → sum_below (λ k. sum_below (λ c. f k c) n) m ≡ sum_below (λ c. sum_below (λ k. f k c) m) n
swap f zero n = sym (sum_below-zero n)
swap f (suc m) n = omega (arith, swap f m n, sum_below-add (λ c. sum_below (λ k. f k c) m) (λ c. f m c) n)

module _ (rules : Rules) (room : ℕ) (cpus : List Logged) (members : List (List Note))
    (report : IsGroupReport rules room cpus members) where
  abbrev at : ℕ → Logged
  at cpu = get_or cpus cpu nothing_logged

  abbrev tries_of : ℕ → ℕ → ℕ
  tries_of member cpu = sum_by attempt_settles (attempts_at member (at cpu).arrivals (at cpu).log)

  none_from : (member : ℕ) → member < length members
      → NoneFrom (length cpus) (λ cpu. frame_notes cpu (get_or members member []))
  none_from member below cpu past =
      no_notes room rules.own (frame_notes cpu (get_or members member []))
      (subst (λ (l : Logged). AreNotesOf room rules.own (attempts_at member l.arrivals l.log)
      (frame_notes cpu (get_or members member [])))
      (get_or_past cpus cpu nothing_logged past) (report.joined.each cpu member below))

  member_counts : (member : ℕ) → member < length members
      → sum_by settled (get_or members member []) ≡ sum_below (tries_of member) (length cpus)
  member_counts member below =
      all_notes (length cpus) (get_or members member []) (none_from member below)
      ∙ sum_below-same (λ cpu. sum_by settled (frame_notes cpu (get_or members member []))) (tries_of member)
      (length cpus) (λ cpu less.
      by_tries room rules.own (attempts_at member (at cpu).arrivals (at cpu).log) (frame_notes cpu (get_or members member []))
      (report.joined.each cpu member below))

  cpu_counts : (cpu : ℕ) → sum_below (λ member. tries_of member cpu) (length members) ≡ sum_by passed (at cpu).log
  cpu_counts cpu =
      ap (λ n. sum_below (λ member. tries_of member cpu) n) report.count
      ∙ log_settles rules 0 (at cpu).arrivals (at cpu).log report.some report.some (report.lawful cpu)

  all_settled : sum_by (λ notes. sum_by settled notes) members ≡ sum_by (λ logged. sum_by passed logged.log) cpus
  all_settled =
      sum_by-below (λ notes. sum_by settled notes) members []
      ∙ sum_below-same (λ member. sum_by settled (get_or members member []))
      (λ member. sum_below (tries_of member) (length cpus)) (length members) member_counts
      ∙ swap tries_of (length members) (length cpus)
      ∙ sum_below-same (λ cpu. sum_below (λ member. tries_of member cpu) (length members)) (λ cpu. sum_by passed (at cpu).log)
      (length cpus) (λ cpu less. cpu_counts cpu)
      ∙ sym (sum_by-below (λ (l : Logged). sum_by passed l.log) cpus nothing_logged)

  pub adds_up : sum_by (λ logged. length logged.log) cpus
      ≡ sum_by (λ logged. count_by (λ entry. eqb entry.verdict 0) logged.log) cpus + sum_by
      (λ notes. sum_by settled notes) members
  adds_up = logs_count cpus ∙ ap (λ n. sum_by (λ (l : Logged). count_by is_ended l.log) cpus + n) (sym all_settled)

-- ---- the logs with their arrivals, and without them

same_logs : (f : List ArrivalLog → ℕ) (arriving : List (List (Option Frame))) (cpus : List CpuLog)
    → length cpus ≡ length arriving
    → sum_by (λ (l : Logged). f l.log) (logged arriving cpus)
    ≡ sum_by (λ (log : CpuLog). f log.arrivals) cpus
same_logs f [] [] e = refl
same_logs f [] (log ∷ cpus) e = absurd (omega (arith, e))
same_logs f (a ∷ arriving) [] e = refl
same_logs f (a ∷ arriving) (log ∷ cpus) e =
    omega (
      arith,
      same_logs f arriving cpus (omega (arith, e)),
      sum_by-cons (λ (l : Logged). f l.log) (record { arrivals = somes a; log = log.arrivals }) (logged arriving cpus),
      sum_by-cons (λ (log : CpuLog). f log.arrivals) log cpus,
    )

logs_many : (cpu : ℕ) (bytes : List (List ℕ)) (ends : List CpuEnd) (logs : List CpuLog)
    → AreLogsFrom cpu bytes ends logs → length logs ≡ length bytes
logs_many cpu [] [] [] h = refl
logs_many cpu [] [] (log ∷ logs) h = absurd h
logs_many cpu [] (end ∷ ends) logs h = absurd h
logs_many cpu (b ∷ bytes) [] logs h = absurd h
logs_many cpu (b ∷ bytes) (end ∷ ends) [] h = absurd h
logs_many cpu (b ∷ bytes) (end ∷ ends) (log ∷ logs) h =
    let rest = logs_many (cpu + 1) bytes ends logs h.1 in omega (arith, rest)

-- ---- the members and the report, by statistics that count what notes keep and drop

abbrev pub CountsSettled : (List Note → Stats) → Type 0
CountsSettled totals = (notes : List Note)
    → sum_by settled notes ≡ (totals notes).packets - (totals notes).drops + (totals notes).drops

module _ (totals : List Note → Stats) (counts : CountsSettled totals) where
  same_members : (reports : List MemberReport)
      → sum_by (λ notes. sum_by settled notes) (notes_of reports) ≡ kept_in totals reports + drops_in totals reports
  same_members [] = refl
  same_members (report ∷ reports) =
      omega (
        arith,
        same_members reports,
        counts report.notes,
        sum_by-cons (λ (notes : List Note). sum_by settled notes) report.notes (notes_of reports),
        sum_by-cons (λ (r : MemberReport). (totals r.notes).packets - (totals r.notes).drops) report reports,
        sum_by-cons (λ (r : MemberReport). (totals r.notes).drops) report reports,
      )

  pub totals_add_up : (job : Job) (room : ℕ) (bytes : List (List ℕ)) (ends : List CpuEnd) (report : RunReport)
      → AreLogsFrom 0 bytes ends report.cpus
      → IsGroupReport (rules_of job) room (logged (arriving_of job bytes) report.cpus) (notes_of report.members)
      → TotalsAddUp totals report
  totals_add_up job room bytes ends report logs group =
      let arriving = arriving_of job bytes in
      let many : length report.cpus ≡ length arriving =
      logs_many 0 bytes ends report.cpus logs
      ∙ sym (length-map (captures_from 0 bytes) (arrivals_at (has_defrag job.setup.plan.flags)) ∙ count_from 0 bytes) in
      let all = adds_up (rules_of job) room (logged arriving report.cpus) (notes_of report.members) group in
      let arrivals = same_logs (λ (log : List ArrivalLog). length log) arriving report.cpus many in
      let filtered = same_logs (λ (log : List ArrivalLog). count_by (λ entry. eqb entry.verdict 0) log) arriving
      report.cpus many in
      omega (arith, all, arrivals, filtered, same_members report.members)
