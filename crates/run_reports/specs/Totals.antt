-- The sums over a run that are printed.
use Rattle.std.specs.Prelude.{◌≡◌, ℕ, ◌+◌, ◌-◌, List, length, sum_by, count_by, ◌==◌}
use Rattle.fanout_group.specs.declared.runs.CpuLog.{CpuLog}
use Rattle.ring_model.specs.declared.notes.Note.{Note}
use Rattle.ring_model.specs.declared.notes.Stats.{Stats}
use Rattle.run_reports.specs.declared.reports.MemberReport.{MemberReport}
use Rattle.run_reports.specs.declared.reports.RunReport.{RunReport}

-- the number of all arrivals
abbrev pub arrivals_in : List CpuLog → ℕ
arrivals_in logs = sum_by (λ log. length log.arrivals) logs

-- the number of those that the filter refused: their verdict is 0
abbrev pub filtered_in : List CpuLog → ℕ
filtered_in logs = sum_by (λ log. count_by (λ entry. entry.verdict == 0) log.arrivals) logs

-- the number of packets that members kept, by the statistics over the notes of each
abbrev pub kept_in : (List Note → Stats) → List MemberReport → ℕ
kept_in totals reports =
    sum_by (λ report. (totals report.notes).packets - (totals report.notes).drops) reports

-- the number of packets that they dropped
abbrev pub drops_in : (List Note → Stats) → List MemberReport → ℕ
drops_in totals reports = sum_by (λ report. (totals report.notes).drops) reports

-- the arrivals are those that the filter refused, those that were kept and those that were dropped
abbrev pub TotalsAddUp : (List Note → Stats) → RunReport → Type 0
TotalsAddUp totals report =
    arrivals_in report.cpus
    ≡ filtered_in report.cpus + (kept_in totals report.members + drops_in totals report.members)
