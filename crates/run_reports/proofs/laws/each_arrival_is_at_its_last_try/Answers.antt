use Rattle.run_reports.proofs.Lasts.{each_at_its_last}
use Rattle.run_reports.proofs.laws.each_arrival_is_at_its_last_try.Goals as goal

pub returns : goal.returns
returns c = each_at_its_last
