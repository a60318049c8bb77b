-- A run from its sources to its report is the replay of all frames that they gave.
use Rattle.std.proofs.Common.{◌≡◌, ℕ, zero, suc, ◌+◌, ◌<◌, ◌≤◌, List, [], ◌∷◌, length, drop, get_or, append-nil, Option, refl}
use Rattle.std.proofs.Common.{sym, ap, ◌∙◌, subst, arith}
use Rattle.std.specs.Prelude.{All, IfOk, Result, Ok, Err, map, replicate}
use Rattle.std.proofs.lemmas.List.{length-map, length-replicate}
use Rattle.std.proofs.lemmas.List.Elements.{All-replicate}
use Rattle.capture_file.specs.Capture.{frames_of}
use Rattle.fanout_group.specs.Arrivals.{arrivals_at}
use Rattle.fanout_group.specs.Plans.{Shape, has_defrag}
use Rattle.fanout_group.specs.Rules.{Rules}
use Rattle.capture_file.specs.declared.cpu_end.CpuEnd.{CpuEnd}
use Rattle.fanout_group.specs.declared.runs.CpuLog.{CpuLog}
use Rattle.frame_view.specs.declared.frames.Frame.{Frame}
use Rattle.receive_ring.specs.Replay.{Cpu, Replay, closed, done_line, done_lines, feed_from, replayed, started}
use Rattle.run_reports.specs.RingSteps.{RingSteps}
use Rattle.setup_text.specs.TickOrder.{IsSchedule}
use Rattle.setup_text.specs.declared.lines.Line.{Line}
use Rattle.setup_text.specs.declared.lines.Line.TheVariants.{Feed}
use Rattle.replay_machine.proofs.Timed.{IsTimed, drop_line, timed-started, timed_after}
use Rattle.ring_model.specs.Rings.{Ring, fresh}
use Rattle.setup_text.specs.declared.jobs.Job.{Job}
use Rattle.run_reports.specs.declared.reports.MemberReport.{MemberReport}
use Rattle.run_reports.specs.declared.reports.RunReport.{RunReport}
use Rattle.cpu_feed.specs.ClosedCpus.{AllClose}
use Rattle.cpu_feed.specs.CpuFeeds.{Closes, Feeding, frames_in}
use Rattle.cpu_feed.proofs.ClosedOnes.{all_gave, closed_many}
use Rattle.replay_machine.specs.RunStates.{AreAllOf, AreCpus, IsCounted, IsRun, RunValue, cpus_of, firsts_of, whole, cpu_of}
use Rattle.run_reports.specs.Jobs.{captures_from, rules_of}
use Rattle.replay_machine.specs.Runs.{log_of, logs_from, replay_over, report_with}
use Rattle.replay_machine.specs.inside.OverRings.{IsReplayedOver}
use Rattle.capture_reading.specs.Sources.{AllGave}
use Rattle.tap_outside.specs.Seen.{SourceSeen}
use Rattle.replay_machine.specs.inside.RunEffects.{FedRest, Finishes, LineDone, Starts, starting_from}
use Rattle.replay_machine.proofs.RunCounts.{starts_counted}
use Rattle.replay_machine.proofs.Whole.{as-many}

abbrev first : Feeding → Option SourceSeen
first cpu = cpu.first

abbrev bytes_in : Feeding → List ℕ
bytes_in cpu = cpu.bytes

abbrev end_in : CpuLog → CpuEnd
end_in log = log.end

-- ---- before the first line

starting_cpus : (plan : Shape) (number : ℕ) (firsts : List (Option SourceSeen))
    → AreCpus plan number (starting_from plan number firsts)
starting_cpus plan number [] = tt
starting_cpus plan number (f ∷ firsts) = (refl, refl, starting_cpus plan (number + 1) firsts)

starting_firsts : (plan : Shape) (number : ℕ) (firsts : List (Option SourceSeen))
    → map first (starting_from plan number firsts) ≡ firsts
starting_firsts plan number [] = refl
starting_firsts plan number (f ∷ firsts) =
    ap (λ (fs : List (Option SourceSeen)). f ∷ fs) (starting_firsts plan (number + 1) firsts)

abbrev waits : List (Option Frame) → Cpu
waits waiting = record { waiting = waiting; present = 0; log = [] }

starting_whole : (plan : Shape) (number : ℕ) (all : List (List Frame)) (firsts : List (Option SourceSeen))
    → AreAllOf all (starting_from plan number firsts)
    → cpus_of all (starting_from plan number firsts) ≡ map waits (map (arrivals_at (has_defrag plan.flags)) all)
starting_whole plan number [] [] h = refl
starting_whole plan number [] (f ∷ firsts) h = absurd h
starting_whole plan number (a ∷ all) [] h = absurd h
starting_whole plan number (a ∷ all) (f ∷ firsts) h =
    ap (λ (cs : List Cpu). waits (arrivals_at (has_defrag plan.flags) a) ∷ cs) (starting_whole plan (number + 1) all firsts h.1)

pub starts_run : (steps : RingSteps) (job : Job) (firsts : List (Option SourceSeen)) (run : RunValue)
    → Starts steps job firsts run → IsRun steps job run
starts_run steps job firsts run s =
    let size = steps.size in
    let P : Ring → Type 0 = λ ring. ring.size ≡ size in
    record {
      count = ap (λ (rs : List Ring). length rs) s.members ∙ length-replicate job.setup.plan.members (fresh size);
      sizes = subst (λ (rs : List Ring). All P rs) (sym s.members) (All-replicate P job.setup.plan.members (fresh size) refl);
      cpus = subst (λ (cs : List Feeding). AreCpus job.setup.plan 0 cs) (sym s.cpus) (starting_cpus job.setup.plan 0 firsts);
    }

pub starts_timed : (steps : RingSteps) (job : Job) (firsts : List (Option SourceSeen)) (run : RunValue) (lines : List Line)
    → Starts steps job firsts run → IsSchedule lines
    → IsTimed run.members lines
starts_timed steps job firsts run lines s schedule =
    subst (λ (rs : List Ring). IsTimed rs lines) (sym s.members)
    (timed-started steps.size job.setup.plan.members lines schedule)

starts_whole : (steps : RingSteps) (job : Job) (firsts : List (Option SourceSeen)) (run : RunValue) (all : List (List Frame))
    → Starts steps job firsts run → AreAllOf all run.cpus
    → whole all run ≡ started (rules_of job) steps (map (arrivals_at (has_defrag job.setup.plan.flags)) all)
starts_whole steps job firsts run all s h =
    let g = subst (λ (cs : List Feeding). AreAllOf all cs) s.cpus h in
    ap (λ (cs : List Cpu). record (whole all run) { cpus = cs })
    (ap (λ (cs : List Feeding). cpus_of all cs) s.cpus ∙ starting_whole job.setup.plan 0 all firsts g)
    ∙ ap (λ (rs : List Ring). record {
      cpus = map waits (map (arrivals_at (has_defrag job.setup.plan.flags)) all);
      members = rs;
      ticket = run.ticket;
    }) s.members
    ∙ ap (λ (t : ℕ). record {
      cpus = map waits (map (arrivals_at (has_defrag job.setup.plan.flags)) all);
      members = replicate job.setup.plan.members (fresh steps.size);
      ticket = t;
    }) s.ticket

-- ---- the lines

-- one more line of a schedule
lines-more : (rules : Rules) (steps : RingSteps) (at : ℕ) (lines : List Line) (none : Line) (old new : Replay)
    → at < length lines
    → new ≡ done_line rules steps (get_or lines at none) old
    → done_lines rules steps (drop (at + 1) lines) new ≡ done_lines rules steps (drop at lines) old
lines-more rules steps at lines none old new h e =
    ap (λ (r : Replay). done_lines rules steps (drop (at + 1) lines) r) e
    ∙ ap (λ (ls : List Line). done_lines rules steps ls old) (sym (drop_line at lines none h))

-- after some lines
pub record Did (steps : RingSteps) (job : Job) (lines : List Line) (at : ℕ) (start now : RunValue) : Type 0 where
  pub run : IsRun steps job now
  pub timed : IsTimed now.members (drop at lines)
  pub does : (all : List (List Frame)) → AreAllOf all now.cpus → AreAllOf all start.cpus
      × (done_lines (rules_of job) steps (drop at lines) (whole all now)
      ≡ done_lines (rules_of job) steps lines (whole all start))
  pub firsts : firsts_of now ≡ firsts_of start
  pub counted : IsCounted at now

pub did_first : (steps : RingSteps) (job : Job) (lines : List Line) (firsts : List (Option SourceSeen)) (run : RunValue)
    → length firsts ≤ 8 → Starts steps job firsts run → IsSchedule lines
    → Did steps job lines 0 run run
did_first steps job lines firsts run few s schedule = record {
  run = starts_run steps job firsts run s;
  timed = starts_timed steps job firsts run lines s schedule;
  does = λ all g. (g, refl);
  firsts = refl;
  counted = starts_counted steps job firsts run few s;
}

pub did_more : (steps : RingSteps) (job : Job) (lines : List Line) (at : ℕ) (start now new : RunValue) → at < length lines
    → Did steps job lines at start now
    → LineDone steps job (get_or lines at (Feed 0)) now new → Did steps job lines (at + 1) start new
did_more steps job lines at start now new within h f = record {
  run = f.run;
  timed = timed_after steps (get_or lines at (Feed 0)) (drop (at + 1) lines) now.members new.members f.members
      (subst (λ (ls : List Line). IsTimed now.members ls) (drop_line at lines (Feed 0) within) h.timed);
  does = λ all g.
      let b = f.does all g in
      let i = h.does all b.0 in
      (i.0, lines-more (rules_of job) steps at lines (Feed 0) (whole all now) (whole all new) within b.1 ∙ i.1);
  firsts = f.firsts ∙ h.firsts;
  counted = f.counted at h.counted;
}

lines_past : (at : ℕ) (lines : List Line) → length lines ≤ at → drop at lines ≡ []
lines_past zero [] h = refl
lines_past (suc at) [] h = refl
lines_past zero (line ∷ lines) h = absurd (omega (arith, h))
lines_past (suc at) (line ∷ lines) h = lines_past at lines (omega (arith, h))

-- ---- the end

frames_all : (cpus : List Feeding) → AreAllOf (map frames_in cpus) cpus
frames_all [] = tt
frames_all (c ∷ cpus) = (([], sym (append-nil (frames_in c)), λ some. refl), frames_all cpus)

captures_are : (plan : Shape) (number : ℕ) (cpus : List Feeding) → AreCpus plan number cpus
    → map frames_in cpus ≡ captures_from number (map bytes_in cpus)
captures_are plan number [] h = refl
captures_are plan number (c ∷ cpus) h =
    ap (λ (n : ℕ). frames_of n c.bytes ∷ map frames_in cpus) h.0
    ∙ ap (λ (cs : List (List Frame)). frames_of number c.bytes ∷ cs) (captures_are plan (number + 1) cpus h.2)

logs_are : (plan : Shape) (number : ℕ) (cpus : List Feeding) (nows : List (Option SourceSeen)) (logs : List CpuLog)
    → AreCpus plan number cpus → AllClose cpus nows logs
    → logs ≡ logs_from number (map bytes_in cpus) (map end_in logs) (cpus_of (map frames_in cpus) cpus)
logs_are plan number [] [] [] h k = refl
logs_are plan number [] [] (log ∷ logs) h k = absurd k
logs_are plan number [] (now ∷ nows) logs h k = absurd k
logs_are plan number (c ∷ cpus) [] logs h k = absurd k
logs_are plan number (c ∷ cpus) (now ∷ nows) [] h k = absurd k
logs_are plan number (c ∷ cpus) (now ∷ nows) (log ∷ logs) h k =
    let one : Closes c now log = k.0 in
    let log_is : log ≡ log_of number c.bytes log.end (cpu_of (frames_in c) c) =
    one.log_is
    ∙ ap (λ (n : ℕ). record {
      frames = length (frames_of n c.bytes);
      given = length c.bytes;
      end = log.end;
      arrivals = c.path.log;
    }) h.0 in
    ap (λ (l : CpuLog). l ∷ logs) log_is
    ∙ ap (λ (ls : List CpuLog). log_of number c.bytes log.end (cpu_of (frames_in c) c) ∷ ls)
    (logs_are plan (number + 1) cpus nows logs h.2 k.1)

-- the replay of all frames
replayed_whole : (steps : RingSteps) (job : Job) (lines : List Line) (arriving : List (List (Option Frame))) (last : Replay)
    (count : ℕ) (end : Replay)
    → last ≡ done_lines (rules_of job) steps lines (started (rules_of job) steps arriving)
    → count ≡ length last.cpus → end ≡ feed_from (rules_of job) steps 0 count last
    → closed end ≡ replayed (rules_of job) steps arriving lines
unfolding replayed
replayed_whole steps job lines arriving last count end last_is count_is end_is =
    ap (λ (r : Replay). closed r) (end_is ∙ ap (λ (n : ℕ). feed_from (rules_of job) steps 0 n last) count_is)
    ∙ ap (λ (r : Replay). closed (feed_from (rules_of job) steps 0 (length r.cpus) r)) last_is

module _ (steps : RingSteps) (job : Job) (lines : List Line) (firsts : List (Option SourceSeen))
    (start mid final : RunValue) (at : ℕ)
    (s : Starts steps job firsts start) (d : Did steps job lines at start mid) (past : length lines ≤ at)
    (f : FedRest steps job mid final) where
  abbrev totals : List (List Frame)
  totals = map frames_in final.cpus

  abbrev bytes : List (List ℕ)
  bytes = map bytes_in final.cpus

  is_replay : closed (whole totals final) ≡ replay_over steps job lines bytes
  is_replay =
      let here = f.does totals (frames_all final.cpus) in
      let before = d.does totals here.0 in
      let none = lines_past at lines past in
      let last : whole totals mid ≡ done_lines (rules_of job) steps lines (whole totals start) =
      ap (λ (ls : List Line). done_lines (rules_of job) steps ls (whole totals mid)) (sym none) ∙ before.1 in
      let begun = starts_whole steps job firsts start totals s before.0 in
      replayed_whole steps job lines (map (arrivals_at (has_defrag job.setup.plan.flags)) totals) (whole totals mid)
      (length mid.cpus) (whole totals final)
      (last ∙ ap (λ (r : Replay). done_lines (rules_of job) steps lines r) begun) (sym (as-many totals mid.cpus here.0)) here.1
      ∙ ap (λ (c : List (List Frame)). replayed (rules_of job) steps
      (map (arrivals_at (has_defrag job.setup.plan.flags)) c) lines)
      (captures_are job.setup.plan 0 final.cpus f.run.cpus)

  firsts_are : map first final.cpus ≡ firsts
  firsts_are = f.firsts ∙ d.firsts ∙ ap (λ (cs : List Feeding). map first cs) s.cpus ∙ starting_firsts job.setup.plan 0 firsts

  abbrev ends_in : RunReport → List CpuEnd
  ends_in report = map end_in report.cpus

  report_is : (reported : Ring → MemberReport) (nows : List (Option SourceSeen)) (report : RunReport)
      → Finishes reported final nows report
      → report ≡ report_with reported bytes (ends_in report) (replay_over steps job lines bytes)
  report_is reported nows report e =
      let ends = ends_in report in
      let logs = logs_are job.setup.plan 0 final.cpus nows report.cpus f.run.cpus e.cpus in
      ap (λ (ls : List CpuLog). record { cpus = ls; members = report.members }) logs
      ∙ ap (λ (ms : List MemberReport). record {
        cpus = logs_from 0 bytes ends (cpus_of totals final.cpus);
        members = ms;
      }) e.members
      ∙ ap (λ (r : Replay). record { cpus = logs_from 0 bytes ends r.cpus; members = map reported r.members }) is_replay

  many : (nows : List (Option SourceSeen)) (report : RunReport) → AllClose final.cpus nows report.cpus
      → length (ends_in report) ≡ length bytes
  many nows report closes =
      let closed = closed_many final.cpus nows report.cpus closes in
      let ends = length-map report.cpus end_in in
      let all = length-map final.cpus bytes_in in
      omega (arith, closed, ends, all)

  is_replayed : (reported : Ring → MemberReport) (nows : List (Option SourceSeen)) (report : RunReport)
      → Finishes reported final nows report → IsReplayedOver steps reported job lines firsts nows report
  is_replayed reported nows report e = record {
    bytes = bytes;
    ends = ends_in report;
    many = many nows report e.cpus;
    gave = subst (λ (fs : List (Option SourceSeen)). AllGave fs nows bytes (ends_in report)) firsts_are
        (all_gave final.cpus nows report.cpus e.cpus);
    report_is = report_is reported nows report e;
  }

  -- what the closing reports
  pub told : {A E : Type 0} (result : Result A E) (nows : A → List (Option SourceSeen)) (report : A → RunReport)
      (reported : Ring → MemberReport)
      → IfOk result (λ ran. Finishes reported final (nows ran) (report ran))
      → IfOk result (λ ran. IsReplayedOver steps reported job lines firsts (nows ran) (report ran))
  told (Ok ran) nows report reported e = is_replayed reported (nows ran) (report ran) e
  told (Err error) nows report reported e = tt
