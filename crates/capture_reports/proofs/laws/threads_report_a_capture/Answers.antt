use Rattle.capture_reports.proofs.ReadReports.{rings_are, ticked_are}
use Rattle.capture_reports.proofs.laws.threads_report_a_capture.Goals as goal

pub returns : goal.returns
returns c = λ job moments bytes ends notes rings report ran are. record {
  ticked = ticked_are job.setup.shape job.setup.dump moments notes rings report.members ran.ticked are;
  rings = rings_are job.setup.shape job.setup.dump notes rings report.members ran.rings_are are;
}
