use Rattle.work_queue.proofs.Goings.{goes_on}
use Rattle.work_queue.proofs.laws.the_history_holds.Goals as goal

pub returns : goal.returns
returns c = λ items views r. goes_on items views r
