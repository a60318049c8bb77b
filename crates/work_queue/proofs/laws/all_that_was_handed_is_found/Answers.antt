use Rattle.work_queue.proofs.Counts.{found_of_handed, handed_of_found}
use Rattle.work_queue.proofs.laws.all_that_was_handed_is_found.Goals as goal

pub returns : goal.returns
returns c = λ passes left h work. (found_of_handed passes left h work, handed_of_found passes left h work)
