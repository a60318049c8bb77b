use Rattle.block_pool.proofs.pool_threads.run_both.Goals as goal

pub returns-clause-decoded : goal.returns-clause-decoded
returns-clause-decoded g c = c.join.ensures.first
