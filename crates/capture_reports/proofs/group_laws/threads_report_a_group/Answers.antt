use Rattle.capture_reports.proofs.Joint.{reports}
use Rattle.capture_reports.proofs.group_laws.threads_report_a_group.Goals as goal

pub returns : goal.returns
returns c = reports
