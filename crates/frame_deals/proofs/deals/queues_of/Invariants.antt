use Rattle.frame_deals.proofs.CpuQueues.{AreQueues}
use Rattle.frame_deals.proofs.deals.queues_of.Given as goal

abbrev pub invariant-loop-cpu : goal.invariant-loop-cpu
invariant-loop-cpu l = AreQueues l.fn.cpus.items l.queues.items l.cpu-iterator.rest.items
