-- A job that was replayed: what its report guarantees.
use Rattle.std.proofs.Common.{◌≡◌, ℕ, ◌≤◌, Bool, true, false, List, ◌++◌, length, refl, sym, ap}
use Rattle.std.proofs.Common.{subst, ◌∙◌, arith, Option, None, Some}
use Rattle.std.specs.Prelude.{if◌then◌else◌, nat_lt}
use Rattle.std.proofs.lemmas.Bool.{ltb-false}
use Rattle.fanout_group.specs.declared.plan_error.PlanError.{PlanError}
use Rattle.capture_file.specs.declared.cpu_end.CpuEnd.{CpuEnd}
use Rattle.capture_reading.specs.Sources.{AllGave}
use Rattle.cpu_feeders.specs.Runs.{IsCaptureRun}
use Rattle.run_reports.specs.Reports.{IsRunReport}
use Rattle.setup_text.specs.declared.lines.Line.{Line}
use Rattle.setup_text.specs.Sound.{IsSetup}
use Rattle.setup_text.specs.declared.commands.Command.{Command}
use Rattle.setup_text.specs.declared.commands.Command.TheVariants.{Capture, Check, Forward, Make, Replay, Replay2, Send}
use Rattle.setup_text.specs.declared.cpu_setups.CpuSetup.{CpuSetup}
use Rattle.setup_text.specs.declared.jobs.Job.{Job}
use Rattle.run_reports.specs.declared.reports.RunReport.{RunReport}
use Rattle.setup_text.specs.declared.setups.Setup.{Setup}
use Rattle.tap_outside.specs.Contents.{Contents}
use Rattle.tap_outside.specs.Seen.{SourceSeen, SourcesSeen, StoreSeen}
use Rattle.run_reports.specs.declared.ring_kind.RingKind.{RingKind}
use Rattle.run_reports.specs.declared.ring_kind.RingKind.TheVariants.{Blocks}
use Rattle.tap_engine.specs.Commands.{Named, has_schedule, is_threaded, rings_of}
use Rattle.tap_running.specs.Counts.{IsCounted}
use Rattle.tap_engine.specs.Findings.{IsReported, IsSmall, faults_in}
use Rattle.tap_engine.specs.Given.{AreGiven, Texts, given_entries}
use Rattle.tap_running.specs.Captures.{AreCaptures}
use Rattle.tap_engine.specs.Headline.{CapturesFor, GivenFor, IsCaptureOf, IsReplayOf}
use Rattle.tap_engine.specs.Headline.{IsRunOf, rules_for}
use Rattle.tap_engine.specs.Jobs.{HasLines, HasTicks, IsRead}
use Rattle.replay_machine.specs.Runs.{report_of}
use Rattle.run_reports.specs.RingRules.{block_rules, rules_by}
use Rattle.tap_engine.specs.inside.Replays.{IsReplayedBy, IsReportBy}
use Rattle.tap_engine.specs.inside.Sources.{AreFetched, Fetches, entries_of, faulty_in, missing_in, with_closed}
use Rattle.tap_engine.proofs.Ends.{as_many_logs, report_ends, report_members}
use Rattle.tap_engine.proofs.Counted.{counts_run}
use Rattle.tap_engine.proofs.Fetched.{bytes_as_many, captures_are}
use Rattle.tap_running.proofs.Stores.{held_same}
use Rattle.tap_engine.proofs.Given.{run_given}

-- what holds of the report of a job that was replayed over these sources
pub record Replays (rings : RingKind) (job : Job) (lines : List Line)
    (old new : List (Option SourceSeen)) (report : RunReport) : Type 0 where
  pub replayed : IsReplayedBy rings job lines old new report
  pub small : IsSmall report

second_test : (a b : Bool) (first second : PlanError) (rest : Option PlanError)
    → (if a then Some first else if b then Some second else rest) ≡ None → b ≡ false
second_test true b first second rest e = cc
second_test false true first second rest e = cc
second_test false false first second rest e = refl

few_in_group : (setup : Setup) → IsSetup setup → setup.plan.members ≤ 8
few_in_group setup sound = ltb-false 8 setup.plan.members
    (second_test _ (nat_lt 8 setup.plan.members) _ _ _ sound.group)

-- a report is small: at most eight CPUs and members, and short packets
pub small_run : (rings : RingKind) (job : Job) (old new : List (Option SourceSeen))
    (bytes : List (List ℕ)) (ends : List CpuEnd) (report : RunReport)
    → IsSetup job.setup → length old ≡ length job.setup.cpus → AllGave old new bytes ends
    → IsReportBy rings job bytes ends report → IsSmall report
small_run rings job old new bytes ends report sound count gave run =
    let ends_are = (bytes_as_many old new bytes ends gave).1 in
    let logs = as_many_logs report.cpus ends (report_ends (rules_by rings job.setup.shape) job bytes ends report run) in
    let members = report_members (rules_by rings job.setup.shape) job bytes ends report run in
    record {
      cpus = let most = sound.few in omega (arith, logs, ends_are, count, most);
      members = let most = few_in_group job.setup sound in omega (arith, members, most);
      packets = run.short;
    }

pub replays : (rings : RingKind) (job : Job) (lines : List Line)
    (old new : List (Option SourceSeen)) (report : RunReport)
    → IsSetup job.setup → length old ≡ length job.setup.cpus
    → IsReplayedBy rings job lines old new report → Replays rings job lines old new report
replays rings job lines old new report sound count r =
    record {
      replayed = r;
      small = small_run rings job old new r.bytes r.ends report sound count r.gave r.run;
    }

-- the CPUs that ended with a fault were counted
pub faults_counted : (held : Option Contents) (rings : RingKind) (job : Job)
    (old new : List (Option SourceSeen)) (bytes : List (List ℕ)) (ends : List CpuEnd)
    (report : RunReport) (a b c : StoreSeen)
    → AreFetched held job.setup.cpus old → AllGave old new bytes ends
    → IsReportBy rings job bytes ends report
    → IsCounted a b (missing_in old) → IsCounted b c (faulty_in new)
    → IsCounted a c (faults_in report.cpus)
faults_counted held rings job old new bytes ends report a b c fetched gave run =
    counts_run held job.setup.cpus old new bytes ends report.cpus a b c fetched gave
    (report_ends (rules_by rings job.setup.shape) job bytes ends report run)

reported : (old mid new : StoreSeen) (named : Named) (texts : Texts) (job : Job) (bytes : List (List ℕ))
    (ends : List CpuEnd) (report : RunReport)
    → IsReportBy (rings_of named.command) job bytes ends report
    → IsRead old mid named texts job → CapturesFor named.command old.held job.setup bytes ends
    → GivenFor named.command mid.sources new.sources job.setup.cpus bytes ends
    → IsRunOf named.command old.held named job texts.last bytes ends report
    → IsReported old new named job.setup report
reported old mid new named texts job bytes ends report run read captures given adds = record {
  headline = record {
    texts = texts;
    job = job;
    job_is = read.job_is;
    read = mid;
    read_is = read.read_is;
    bytes = bytes;
    ends = ends;
    captures = captures;
    given = given;
    report_is = run;
    run = adds;
  };
  setup_is = refl;
}

-- the sources of a run, fetched when all texts were read
abbrev pub FetchedBy : StoreSeen → StoreSeen → StoreSeen → List CpuSetup
    → List (Option SourceSeen) → List (Option SourceSeen) → Type 0
FetchedBy before fetched after cpus old new =
    AreFetched before.held cpus old
    × Fetches before.sources fetched.sources cpus old
    × (after.sources ≡ with_closed fetched.sources (given_entries (entries_of new)))

fetched_since : (start old : StoreSeen) (named : Named) (texts : Texts) (job : Job)
    (sources : List (Option SourceSeen)) → IsRead start old named texts job
    → AreFetched old.held job.setup.cpus sources → AreFetched start.held job.setup.cpus sources
fetched_since start old named texts job sources read fetched =
    subst (λ (held : Option Contents). AreFetched held job.setup.cpus sources)
    (held_same start old read.read_is.unfailed.only) fetched

-- the run of a command that has a schedule
scheduled_captures : (held : Option Contents) (setup : Setup) (bytes : List (List ℕ))
    (ends : List CpuEnd) (command : Command) → has_schedule command ≡ true
    → AreCaptures held setup.cpus bytes ends → CapturesFor command held setup bytes ends
scheduled_captures held setup bytes ends Replay is are = are
scheduled_captures held setup bytes ends Replay2 is are = are
scheduled_captures held setup bytes ends Check is are = cc
scheduled_captures held setup bytes ends Capture is are = cc
scheduled_captures held setup bytes ends Forward is are = cc
scheduled_captures held setup bytes ends Send is are = cc
scheduled_captures held setup bytes ends Make is are = cc

scheduled_run : (held : Option Contents) (named : Named) (job : Job) (text : List ℕ)
    (bytes : List (List ℕ)) (ends : List CpuEnd) (report : RunReport) (command : Command)
    → has_schedule command ≡ true → IsReplayOf held named job text bytes ends report
    → IsRunOf command held named job text bytes ends report
scheduled_run held named job text bytes ends report Replay is run = run
scheduled_run held named job text bytes ends report Replay2 is run = run
scheduled_run held named job text bytes ends report Check is run = cc
scheduled_run held named job text bytes ends report Capture is run = cc
scheduled_run held named job text bytes ends report Forward is run = cc
scheduled_run held named job text bytes ends report Send is run = cc
scheduled_run held named job text bytes ends report Make is run = cc

scheduled_given : (before after : SourcesSeen) (cpus : List CpuSetup) (bytes : List (List ℕ))
    (ends : List CpuEnd) (command : Command) → has_schedule command ≡ true
    → AreGiven before after cpus bytes ends → GivenFor command before after cpus bytes ends
scheduled_given before after cpus bytes ends Replay is are = are
scheduled_given before after cpus bytes ends Replay2 is are = are
scheduled_given before after cpus bytes ends Check is are = cc
scheduled_given before after cpus bytes ends Capture is are = cc
scheduled_given before after cpus bytes ends Forward is are = cc
scheduled_given before after cpus bytes ends Send is are = cc
scheduled_given before after cpus bytes ends Make is are = cc

pub replay_reported : (start old mid new : StoreSeen) (named : Named) (texts : Texts) (job : Job)
    (lines : List Line) (olds news : List (Option SourceSeen)) (report : RunReport)
    → Replays (rings_of named.command) job lines olds news report
    → FetchedBy old mid new job.setup.cpus olds news → has_schedule named.command ≡ true
    → IsRead start old named texts job → HasLines start.held named job texts.last lines
    → IsReported start new named job.setup report
replay_reported start old mid new named texts job lines olds news report r sources is read
    lines_are =
    let fetched = fetched_since start old named texts job olds read sources.0 in
    reported start old new named texts job r.replayed.bytes r.replayed.ends report r.replayed.run
    read
    (scheduled_captures start.held job.setup r.replayed.bytes r.replayed.ends named.command is
    (captures_are start.held job.setup.cpus olds news r.replayed.bytes r.replayed.ends fetched
    r.replayed.gave))
    (scheduled_given old.sources new.sources job.setup.cpus r.replayed.bytes r.replayed.ends
    named.command is
    (run_given start.held job.setup.cpus olds news r.replayed.bytes r.replayed.ends old.sources
    mid.sources new.sources fetched r.replayed.gave sources.1 sources.2))
    (scheduled_run start.held named job texts.last r.replayed.bytes r.replayed.ends report
    named.command is
    (record { lines = lines; lines_are = lines_are; replay = r.replayed.report_is }))

-- and that of a `make`
pub make_reported : (old new : StoreSeen) (named : Named) (texts : Texts) (job : Job)
    (lines : List Line) (olds news : List (Option SourceSeen)) (report : RunReport)
    → (r : Replays Blocks job lines olds news report) → named.command ≡ Make
    → CapturesFor Make old.held job.setup r.replayed.bytes r.replayed.ends
    → IsRead old new named texts job → HasLines old.held named job texts.last lines
    → IsReported old new named job.setup report
make_reported old new named texts job lines olds news report r is captures read lines_are =
    reported old new new named texts job r.replayed.bytes r.replayed.ends report
    (subst (λ (c : Command). IsReportBy (rings_of c) job r.replayed.bytes r.replayed.ends report)
    (sym is) r.replayed.run) read
    (subst (λ (c : Command). CapturesFor c old.held job.setup r.replayed.bytes r.replayed.ends)
    (sym is) captures)
    (subst (λ (c : Command). GivenFor c new.sources new.sources job.setup.cpus r.replayed.bytes
    r.replayed.ends) (sym is) refl)
    (subst (λ (c : Command). IsRunOf c old.held named job texts.last r.replayed.bytes
    r.replayed.ends report) (sym is)
    (record {
      lines = lines;
      lines_are = lines_are;
      replay = r.replayed.report_is
          ∙ ap (λ (c : Command). report_of (rules_for c job) job lines r.replayed.bytes r.replayed.ends)
          (sym is);
    }))

-- and that of a `capture` or a `forward`
threaded_worth : (job : Job) (bytes : List (List ℕ)) (ends : List CpuEnd) (report : RunReport)
    (command : Command) → is_threaded command ≡ true
    → IsRunReport (block_rules job.setup.shape) job bytes ends report
    → IsReportBy (rings_of command) job bytes ends report
threaded_worth job bytes ends report Capture is run = run
threaded_worth job bytes ends report Forward is run = run
threaded_worth job bytes ends report Check is run = cc
threaded_worth job bytes ends report Replay is run = cc
threaded_worth job bytes ends report Replay2 is run = cc
threaded_worth job bytes ends report Send is run = cc
threaded_worth job bytes ends report Make is run = cc

threaded_captures : (held : Option Contents) (setup : Setup) (bytes : List (List ℕ))
    (ends : List CpuEnd) (command : Command) → is_threaded command ≡ true
    → AreCaptures held setup.cpus bytes ends → CapturesFor command held setup bytes ends
threaded_captures held setup bytes ends Capture is are = are
threaded_captures held setup bytes ends Forward is are = are
threaded_captures held setup bytes ends Check is are = cc
threaded_captures held setup bytes ends Replay is are = cc
threaded_captures held setup bytes ends Replay2 is are = cc
threaded_captures held setup bytes ends Send is are = cc
threaded_captures held setup bytes ends Make is are = cc

threaded_run : (held : Option Contents) (named : Named) (job : Job) (text : List ℕ)
    (bytes : List (List ℕ)) (ends : List CpuEnd) (report : RunReport) (command : Command)
    → is_threaded command ≡ true → IsCaptureOf held job text report
    → IsRunOf command held named job text bytes ends report
threaded_run held named job text bytes ends report Capture is run = run
threaded_run held named job text bytes ends report Forward is run = run
threaded_run held named job text bytes ends report Check is run = cc
threaded_run held named job text bytes ends report Replay is run = cc
threaded_run held named job text bytes ends report Replay2 is run = cc
threaded_run held named job text bytes ends report Send is run = cc
threaded_run held named job text bytes ends report Make is run = cc

threaded_given : (before after : SourcesSeen) (cpus : List CpuSetup) (bytes : List (List ℕ))
    (ends : List CpuEnd) (command : Command) → is_threaded command ≡ true
    → AreGiven before after cpus bytes ends → GivenFor command before after cpus bytes ends
threaded_given before after cpus bytes ends Capture is are = are
threaded_given before after cpus bytes ends Forward is are = are
threaded_given before after cpus bytes ends Check is are = cc
threaded_given before after cpus bytes ends Replay is are = cc
threaded_given before after cpus bytes ends Replay2 is are = cc
threaded_given before after cpus bytes ends Send is are = cc
threaded_given before after cpus bytes ends Make is are = cc

pub threaded_reported : (start old mid new : StoreSeen) (named : Named) (texts : Texts) (job : Job)
    (moments : List ℕ) (olds news : List (Option SourceSeen)) (report : RunReport)
    → IsCaptureRun job moments olds news report
    → FetchedBy old mid new job.setup.cpus olds news → is_threaded named.command ≡ true
    → IsRead start old named texts job → HasTicks start.held job.setup.ticks texts.last moments
    → IsReported start new named job.setup report
threaded_reported start old mid new named texts job moments olds news report r sources is read
    ticks =
    let fetched = fetched_since start old named texts job olds read sources.0 in
    reported start old new named texts job r.bytes r.ends report
    (threaded_worth job r.bytes r.ends report named.command is r.run) read
    (threaded_captures start.held job.setup r.bytes r.ends named.command is
    (captures_are start.held job.setup.cpus olds news r.bytes r.ends fetched r.gave))
    (threaded_given old.sources new.sources job.setup.cpus r.bytes r.ends named.command is
    (run_given start.held job.setup.cpus olds news r.bytes r.ends old.sources mid.sources new.sources
    fetched r.gave sources.1 sources.2))
    (threaded_run start.held named job texts.last r.bytes r.ends report named.command is
    (record { moments = moments; moments_are = ticks; captured = r.captured }))
