use Rattle.work_queue.specs.PassesInside.{one_of}
use Rattle.work_queue.proofs.Moves.{fetches}
use Rattle.work_queue.proofs.queues.WorkQueue.fetch.Goals as goal

pub pop_as-requires-clause-rule : goal.pop_as-requires-clause-rule
pop_as-requires-clause-rule g c =
    let v = c.pass.inside.pass.me.view.client in
    (fetches _ v (one_of v.parts) c.pass.invariant.one, λ items views held at. tt)
