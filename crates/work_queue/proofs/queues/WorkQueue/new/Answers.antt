use Rattle.work_queue.proofs.Splits.{begins}
use Rattle.work_queue.proofs.queues.WorkQueue.new.Goals as goal

pub with_rule-requires : goal.with_rule-requires
with_rule-requires c = begins
