use Rattle.run_reports.proofs.Once.{each_arrival}
use Rattle.run_reports.proofs.laws.each_arrival_appears_exactly_once.Goals as goal

pub returns : goal.returns
returns c = λ rules room cpus members group.
    each_arrival rules room cpus members group (c.each_frame_appears_exactly_once.ensures rules room cpus members group)
