use Rattle.work_queue.specs.PassesInside.{one_of}
use Rattle.work_queue.proofs.Moves.{hands}
use Rattle.work_queue.proofs.queues.WorkQueue.hand.Goals as goal

pub push_as-requires-clause-rule : goal.push_as-requires-clause-rule
push_as-requires-clause-rule g c n =
    let v = c.pass.inside.pass.me.view.client in
    hands n _ v c.args.work (one_of v.parts) c.pass.invariant.one c.requires.lawful
