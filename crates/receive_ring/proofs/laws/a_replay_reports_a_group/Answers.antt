use Rattle.receive_ring.proofs.KindReports.{report_by}
use Rattle.receive_ring.proofs.laws.a_replay_reports_a_group.Goals as goal

pub returns : goal.returns
returns c = report_by
