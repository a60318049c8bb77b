use Rattle.capture_reports.proofs.Attempts.{skipped}
use Rattle.capture_reports.proofs.group_laws.a_skipped_arrival_adds_none.Goals as goal

pub returns : goal.returns
returns c = skipped
