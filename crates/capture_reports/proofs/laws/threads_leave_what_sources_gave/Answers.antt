use Rattle.cpu_feed.proofs.ClosedOnes.{all_gave}
use Rattle.capture_reports.proofs.laws.threads_leave_what_sources_gave.Goals as goal

pub returns : goal.returns
returns c = all_gave
