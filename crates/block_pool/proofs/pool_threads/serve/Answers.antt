use Rattle.cpu_feeders.proofs.WorkerOrder.{worked_through}
use Rattle.block_pool.specs.Workers.{HasDecoded}
use Rattle.block_pool.proofs.pool_threads.serve.Goals as goal

pub returns : goal.returns
returns g c =
    worked_through (HasDecoded c.args.pool.now.decoder.now.dumps c.args.pool.now.queue.now) c.args.pool_workers.len
    c.args.pool_workers.items _ _
    c.deref_mut.ensures.value c.deref_mut.ensures.len c.serve_slice.ensures.count c.serve_slice.ensures.done
