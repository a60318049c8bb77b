-- The replay of a job over rings, in terms of what their readers read.
use Rattle.std.specs.Prelude.{◌≡◌, ℕ, List, length, Option}
use Rattle.capture_file.specs.declared.cpu_end.CpuEnd.{CpuEnd}
use Rattle.capture_reading.specs.Sources.{AllGave}
use Rattle.replay_machine.specs.Runs.{replay_over, report_with}
use Rattle.ring_model.specs.Rings.{Ring}
use Rattle.run_reports.specs.RingSteps.{RingSteps}
use Rattle.run_reports.specs.declared.reports.MemberReport.{MemberReport}
use Rattle.run_reports.specs.declared.reports.RunReport.{RunReport}
use Rattle.setup_text.specs.declared.jobs.Job.{Job}
use Rattle.setup_text.specs.declared.lines.Line.{Line}
use Rattle.tap_outside.specs.Seen.{SourceSeen}

-- the job was replayed by these lines: its sources gave these bytes and ended in this way, and the
-- report is the replay report
pub record IsReplayedOver (steps : RingSteps) (reported : Ring → MemberReport) (job : Job)
    (lines : List Line) (old new : List (Option SourceSeen)) (report : RunReport) : Type 0 where
  pub bytes : List (List ℕ)
  pub ends : List CpuEnd
  pub many : length ends ≡ length bytes
  pub gave : AllGave old new bytes ends
  pub report_is : report ≡ report_with reported bytes ends (replay_over steps job lines bytes)
