-- The ends of a report's logs are those of its captures.
use Rattle.std.proofs.Common.{◌≡◌, ℕ, suc, ◌+◌, List, [], ◌∷◌, length, refl, sym, ap, ◌∙◌}
use Rattle.std.proofs.lemmas.List.{length-map}
use Rattle.capture_file.specs.declared.cpu_end.CpuEnd.{CpuEnd}
use Rattle.fanout_group.specs.declared.runs.CpuLog.{CpuLog}
use Rattle.run_reports.specs.Logs.{AreLogsFrom}
use Rattle.run_reports.specs.Reports.{IsRunReport}
use Rattle.run_reports.specs.RingRules.{RingRules}
use Rattle.setup_text.specs.declared.jobs.Job.{Job}
use Rattle.run_reports.specs.declared.reports.MemberReport.{MemberReport}
use Rattle.run_reports.specs.declared.reports.RunReport.{RunReport}

-- each log ended in this way
abbrev pub AreEnds : List CpuLog → List CpuEnd → Type 0
AreEnds [] [] = Unit {0}
AreEnds (log ∷ logs) (end ∷ ends) = (log.end ≡ end) × AreEnds logs ends
AreEnds logs ends = ⊥

ends_of : (cpu : ℕ) (bytes : List (List ℕ)) (ends : List CpuEnd) (logs : List CpuLog)
    → AreLogsFrom cpu bytes ends logs → AreEnds logs ends
ends_of cpu [] [] [] are = tt
ends_of cpu [] [] (log ∷ logs) are = absurd are
ends_of cpu [] (end ∷ ends) logs are = absurd are
ends_of cpu (b ∷ bytes) [] logs are = absurd are
ends_of cpu (b ∷ bytes) (end ∷ ends) [] are = absurd are
ends_of cpu (b ∷ bytes) (end ∷ ends) (log ∷ logs) are = (
  are.0.end_is,
  ends_of (cpu + 1) bytes ends
      logs are.1,
)

pub report_ends : (rings : RingRules) (job : Job) (bytes : List (List ℕ)) (ends : List CpuEnd)
    (report : RunReport) → IsRunReport rings job bytes ends report
    → AreEnds report.cpus ends
report_ends rings job bytes ends report is = ends_of 0 bytes ends report.cpus is.logs

-- there are as many members as the setup says
pub report_members : (rings : RingRules) (job : Job) (bytes : List (List ℕ)) (ends : List CpuEnd)
    (report : RunReport) → IsRunReport rings job bytes ends report
    → length report.members ≡ job.setup.plan.members
report_members rings job bytes ends report is =
    sym (length-map report.members (λ (member : MemberReport). member.notes)) ∙ is.group.count

pub as_many_logs : (logs : List CpuLog) (ends : List CpuEnd) → AreEnds logs ends
    → length logs ≡ length ends
as_many_logs [] [] are = refl
as_many_logs [] (end ∷ ends) are = absurd are
as_many_logs (log ∷ logs) [] are = absurd are
as_many_logs (log ∷ logs) (end ∷ ends) are = ap suc (as_many_logs logs ends are.1)
