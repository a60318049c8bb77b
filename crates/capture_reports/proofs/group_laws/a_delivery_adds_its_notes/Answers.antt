use Rattle.capture_reports.proofs.Attempts.{delivered}
use Rattle.capture_reports.proofs.group_laws.a_delivery_adds_its_notes.Goals as goal

pub returns : goal.returns
returns c = delivered
