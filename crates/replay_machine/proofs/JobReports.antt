-- The replay report of a job is that of a run.
use Rattle.std.proofs.Common.{◌≡◌, ℕ, ◌<◌, Bool, List, length, All, Option, refl}
use Rattle.capture_file.specs.declared.cpu_end.CpuEnd.{CpuEnd}
use Rattle.fanout_group.specs.Rules.{Rules}
use Rattle.frame_view.specs.declared.frames.Frame.{Frame}
use Rattle.receive_ring.specs.Replay.{replayed}
use Rattle.receive_ring.specs.Reports.{AreArrivals, IsReplayReport, IsRingOf, IsRingReport}
use Rattle.replay_machine.proofs.GroupReports.{group_is, logs_are, members_are}
use Rattle.replay_machine.specs.Runs.{member_of, replay_of, report_of}
use Rattle.ring_model.specs.Ring.{Size}
use Rattle.ring_model.specs.Rings.{Ring}
use Rattle.run_reports.proofs.ArrivalOrder.{AreNumbered, arrive}
use Rattle.run_reports.specs.Jobs.{arriving_of, rules_of}
use Rattle.run_reports.specs.Logs.{AreLogsFrom}
use Rattle.run_reports.specs.Members.{IsMember}
use Rattle.run_reports.specs.Reports.{IsReport, IsRunReport}
use Rattle.run_reports.specs.RingRules.{IsWholeBy, RingRules, Serves, rules_by}
use Rattle.run_reports.specs.RingSteps.{steps_by}
use Rattle.run_reports.specs.declared.reports.RunReport.{RunReport}
use Rattle.run_reports.specs.declared.ring_kind.RingKind.{RingKind}
use Rattle.run_reports.specs.declared.ring_kind.RingKind.TheVariants.{Blocks, Slots}
use Rattle.setup_text.specs.TickOrder.{IsSchedule}
use Rattle.setup_text.specs.declared.jobs.Job.{Job}
use Rattle.setup_text.specs.declared.lines.Line.{Line}
use Rattle.slot_layout.specs.SlotShapes.{slot_size_of}
use Rattle.tp_layout.specs.Requests.{size_of}

abbrev pub ReportsGroup : Type 0
ReportsGroup = (kind : RingKind) (rules : Rules) (size : Size) (arriving : List (List (Option Frame))) (lines : List Line)
    → 0 < rules.members → AreArrivals arriving → IsSchedule lines
    → IsReplayReport rules size.room (IsRingReport size (IsWholeBy kind size)) arriving
    (replayed rules (steps_by kind size) arriving lines)

abbrev pub ReportsRun : Type 0
ReportsRun = (kind : RingKind) (job : Job) (bytes : List (List ℕ)) (ends : List CpuEnd) (report : RunReport)
    → Serves kind job.setup.shape → AreLogsFrom 0 bytes ends report.cpus
    → IsReport (rules_by kind job.setup.shape) (rules_of job) job.setup.dump (arriving_of job bytes) report
    → IsRunReport (rules_by kind job.setup.shape) job bytes ends report

-- the report of a replay of a job is one of its group
abbrev IsGroup : RingRules → Job → List Line → List (List ℕ) → Type 0
IsGroup rings job lines all =
    IsReplayReport (rules_of job) rings.steps.size.room (IsRingOf rings) (arriving_of job all) (replay_of rings job lines all)

group_by : AreNumbered → ReportsGroup → (kind : RingKind) (job : Job) (lines : List Line) (all : List (List ℕ))
    → IsSchedule lines → IsGroup (rules_by kind job.setup.shape) job lines all
group_by law reports Blocks job lines all schedule =
    reports Blocks (rules_of job) (size_of job.setup.shape) (arriving_of job all) lines job.runnable.some_members
    (arrive law job all) schedule
group_by law reports Slots job lines all schedule =
    reports Slots (rules_of job) (slot_size_of job.setup.shape) (arriving_of job all) lines job.runnable.some_members
    (arrive law job all) schedule

member_lawful : (rings : RingRules) (asked : Bool) (ring : Ring) → IsRingOf rings ring
    → IsMember rings asked (member_of rings asked ring)
member_lawful rings asked ring h = record { run = h.run; walked = refl; dump = refl; blocks = refl }

module _ (rings : RingRules) (job : Job) (lines : List Line) (all : List (List ℕ)) (ends : List CpuEnd)
    (report : IsGroup rings job lines all) (many : length ends ≡ length all) where
  is_report : IsReport rings (rules_of job) job.setup.dump (arriving_of job all) (report_of rings job lines all ends)
  unfolding report_of
  is_report = record {
    group = group_is rings.steps (member_of rings job.setup.dump) (IsRingOf rings) job lines all ends report many
        (λ ring. refl);
    members = members_are rings.steps (member_of rings job.setup.dump) (IsRingOf rings) job lines all ends report many
        (IsMember rings job.setup.dump) (member_lawful rings job.setup.dump);
  }

  are_logs : AreLogsFrom 0 all ends (report_of rings job lines all ends).cpus
  unfolding report_of
  are_logs = logs_are rings.steps (member_of rings job.setup.dump) (IsRingOf rings) job lines all ends report many

module _ (law : AreNumbered) (reports : ReportsGroup) where
  pub rings_are : (kind : RingKind) (job : Job) (lines : List Line) (all : List (List ℕ)) → Serves kind job.setup.shape
      → IsSchedule lines
      → All (IsRingOf (rules_by kind job.setup.shape)) (replay_of (rules_by kind job.setup.shape) job lines all).members
  rings_are kind job lines all serves schedule = (group_by law reports kind job lines all schedule).rings

  pub is_run : ReportsRun → (kind : RingKind) (job : Job) (lines : List Line) (all : List (List ℕ)) (ends : List CpuEnd)
      → Serves kind job.setup.shape → IsSchedule lines → length ends ≡ length all
      → IsRunReport (rules_by kind job.setup.shape) job all ends
      (report_of (rules_by kind job.setup.shape) job lines all ends)
  is_run runs kind job lines all ends serves schedule many =
      let rings = rules_by kind job.setup.shape in
      let report = group_by law reports kind job lines all schedule in
      runs kind job all ends (report_of rings job lines all ends) serves (are_logs rings job lines all ends report many)
      (is_report rings job lines all ends report many)
