-- Reports over the rings of a kind.
use Rattle.std.specs.Prelude.{ℕ, List, Option}
use Rattle.capture_file.specs.declared.cpu_end.CpuEnd.{CpuEnd}
use Rattle.replay_machine.specs.Runs.{IsReplayed}
use Rattle.run_reports.specs.Reports.{IsRunReport}
use Rattle.run_reports.specs.RingRules.{rules_by}
use Rattle.run_reports.specs.declared.reports.RunReport.{RunReport}
use Rattle.run_reports.specs.declared.ring_kind.RingKind.{RingKind}
use Rattle.setup_text.specs.declared.jobs.Job.{Job}
use Rattle.setup_text.specs.declared.lines.Line.{Line}
use Rattle.tap_outside.specs.Seen.{SourceSeen}

-- the report is that of a run of the job over such rings
abbrev pub IsReportBy : RingKind → Job → List (List ℕ) → List CpuEnd → RunReport → Type 0
IsReportBy kind job bytes ends report =
    IsRunReport (rules_by kind job.setup.shape) job bytes ends report

-- the job was replayed by these lines over such rings
abbrev pub IsReplayedBy : RingKind → Job → List Line → List (Option SourceSeen)
    → List (Option SourceSeen) → RunReport → Type 0
IsReplayedBy kind job lines old new report =
    IsReplayed (rules_by kind job.setup.shape) job lines old new report
