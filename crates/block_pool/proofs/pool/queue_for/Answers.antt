use Rattle.std.proofs.Common.{◌+◌, List, length, ap, ◌∙◌, take, drop, arith}
use Rattle.block_pool.proofs.FreshThreads.{passes_long}
use Rattle.work_queue.specs.Passes.{PassValue}
use Rattle.block_pool.proofs.pool.queue_for.Goals as goal

pub split_off-requires : goal.split_off-requires
split_off-requires c =
    let all = c.args.members + c.args.workers in
    let long = ap (λ (ps : List PassValue). length ps) c.in_ok-queue.ensures.fresh
    ∙ passes_long c.in_ok-queue.queue.id all 0 all in
    let ok = c.in_ok-queue.passes.ok.0 in
    omega (arith, long, ok)

pub returns-clause-count : goal.returns-clause-count
returns-clause-count c = c.in_ok-queue.ensures.passes

pub returns-clause-takers : goal.returns-clause-takers
returns-clause-takers c = c.in_ok-others.ensures.items ∙ ap (take c.args.members) c.in_ok-queue.ensures.fresh

pub returns-clause-workers : goal.returns-clause-workers
returns-clause-workers c = c.in_ok-others.ensures.tail ∙ ap (drop c.args.members) c.in_ok-queue.ensures.fresh
