use Rattle.std.proofs.Common.{rules, refl}
use Rattle.block_pool.proofs.Decoded.{decoded_more, kept_of}
use Rattle.block_pool.proofs.workers.run_pool_worker.Goals as goal

pub loop-preserved-else-is_err : goal.loop-preserved-else-is_err
loop-preserved-else-is_err g c =
    let inv = c.loop.invariant in
    let kept = kept_of c.keep-kept.result c.is_err.result _ c.is_err.ensures.value c.if-is_err.false c.keep-kept.ensures in
    record {
      decoded = decoded_more c.args.pool.now.decoder.now.dumps c.args.pool.now.queue.now c.args.pool_worker.now
          c.loop.pool_worker _ c.in-Some-fetch.work kept.0 inv.decoded inv.full
          c.in-Some-fetch.ensures.fetched refl kept.2 kept.1;
      full = inv.full;
      seat = search rules;
    }
