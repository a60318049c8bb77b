use Rattle.std.proofs.Common.{List, length, refl, sym, ap, ◌∙◌, subst, arith}
use Rattle.std.specs.List.{AllByRecursion}
use Rattle.block_pool.specs.Takers.{HandingValue, handing_base, handing_taken}
use Rattle.block_pool.proofs.Decoded.{ok_of}
use Rattle.block_pool.proofs.FreshThreads.{fresh_takers, takers_long}
use Rattle.block_pool.proofs.Joined as joins
use Rattle.cpu_feeders.specs.Runs.{IsFreshTaker}
use Rattle.cpu_feeders.proofs.ReadOut.{rings_many}
use Rattle.block_pool.proofs.pool.run_pool.Goals as goal

pub takers_of-requires-clause-fresh : goal.takers_of-requires-clause-fresh
takers_of-requires-clause-fresh g c =
    let made = c.in_ok-queue.ensures in
    joins.front_fresh c.in_ok-queue.queue _ _ made.count refl made.takers

pub pool_workers_of-requires-clause-few : goal.pool_workers_of-requires-clause-few
pool_workers_of-requires-clause-few g c =
    let made = c.in_ok-queue.ensures in
    let long = joins.back_long c.in_ok-queue.queue _ _ made.count refl made.workers in
    let few = c.requires.few in
    omega (arith, long, few)

pub pool_workers_of-requires-clause-seats : goal.pool_workers_of-requires-clause-seats
pool_workers_of-requires-clause-seats g c =
    let made = c.in_ok-queue.ensures in
    let long = joins.back_long c.in_ok-queue.queue _ _ made.count refl made.workers in
    let few = c.requires.few in
    let nine = c.in_ok-dealer.ensures.count in
    omega (arith, long, few, nine)

pub run_both-pool_workers-requires-clause-takers : goal.run_both-pool_workers-requires-clause-takers
run_both-pool_workers-requires-clause-takers g c κs within =
    let made = c.in_ok-queue.ensures in
    ap (λ (ts : List HandingValue). length ts) c.in_ok-takers.ensures
    ∙ takers_long c.args.job.now.setup.shape 0 c.in_ok-queue.takers_passes.items
    ∙ joins.front_long c.in_ok-queue.queue _ _ made.count refl made.takers ∙ c.members-members.ensures.value

pub run_both-pool_workers-requires-clause-fresh : goal.run_both-pool_workers-requires-clause-fresh
run_both-pool_workers-requires-clause-fresh g c κs within =
    let made = c.in_ok-queue.ensures in
    subst (λ (ts : List HandingValue). AllByRecursion (IsFreshTaker handing_base handing_taken c.args.job.now.setup.shape) ts)
    (sym c.in_ok-takers.ensures)
    (fresh_takers c.in_ok-queue.queue c.args.job.now.setup.shape 0 c.in_ok-queue.takers_passes.items
    (joins.front_fresh c.in_ok-queue.queue _ _ made.count refl made.takers))

pub run_both-pool_workers-requires-clause-some : goal.run_both-pool_workers-requires-clause-some
run_both-pool_workers-requires-clause-some g c κs within =
    let made = c.in_ok-queue.ensures in
    let long = joins.workers_long _ c.in_ok-pool_workers.ensures.passes in
    let many = joins.back_long c.in_ok-queue.queue _ _ made.count refl made.workers in
    let some = c.requires.some in
    omega (arith, long, many, some)

pub run_both-pool_workers-requires-clause-ready : goal.run_both-pool_workers-requires-clause-ready
run_both-pool_workers-requires-clause-ready g c κs within =
    let made = c.in_ok-queue.ensures in
    c.in_ok-pool_workers.ensures.fresh c.in_ok-queue.queue c.in_ok-dealer.dealer
    (joins.back_fresh c.in_ok-queue.queue _ _ made.count refl made.workers)
    c.in_ok-dealer.ensures.others

pub close-requires-clause-all : goal.close-requires-clause-all
close-requires-clause-all g c =
    let made = c.in_ok-queue.ensures in
    let run = ok_of _ c.run_both-pool_workers.result.1 c.in_ok-cpus.field-0 c.in_ok-cpus.was
    c.run_both-pool_workers.ensures.ran in
    joins.closes_all _ _ c.in_ok-queue.queue _ _ _ _ _ _ made.count refl made.takers made.workers c.in_ok-takers.ensures
    c.in_ok-pool_workers.ensures.passes
    c.run_both-pool_workers.ensures.decoded run.takers c.in_ok-parted.ensures.passes

pub close-requires-clause-own : goal.close-requires-clause-own
close-requires-clause-own g c =
    let made = c.in_ok-queue.ensures in
    let run = ok_of _ c.run_both-pool_workers.result.1 c.in_ok-cpus.field-0 c.in_ok-cpus.was
    c.run_both-pool_workers.ensures.ran in
    joins.closes_own _ _ c.in_ok-queue.queue _ _ _ _ _ _ made.count refl made.takers made.workers c.in_ok-takers.ensures
    c.in_ok-pool_workers.ensures.passes
    c.run_both-pool_workers.ensures.decoded run.takers c.in_ok-parted.ensures.passes

pub put_together-requires-clause-places : goal.put_together-requires-clause-places
put_together-requires-clause-places g c = λ more rest.
    let made = c.in_ok-queue.ensures in
    let run = ok_of _ c.run_both-pool_workers.result.1 c.in_ok-cpus.field-0 c.in_ok-cpus.was
    c.run_both-pool_workers.ensures.ran in
    let parted = c.in_ok-parted.ensures in
    joins.fit _ _ c.in_ok-queue.queue _ _ _ _ _ _ made.count refl made.takers made.workers c.in_ok-takers.ensures
    c.in_ok-pool_workers.ensures.passes
    c.run_both-pool_workers.ensures.decoded run.takers parted.passes parted.numbered parted.full _ c.in_ok-left.ensures.left
    more rest
    parted.pieces parted.tables

pub put_together-requires-clause-full : goal.put_together-requires-clause-full
put_together-requires-clause-full g c = λ more rest.
    let made = c.in_ok-queue.ensures in
    let run = ok_of _ c.run_both-pool_workers.result.1 c.in_ok-cpus.field-0 c.in_ok-cpus.was
    c.run_both-pool_workers.ensures.ran in
    let parted = c.in_ok-parted.ensures in
    joins.all_full _ _ c.in_ok-queue.queue _ _ _ _ _ _ made.count refl made.takers made.workers c.in_ok-takers.ensures
    c.in_ok-pool_workers.ensures.passes
    c.run_both-pool_workers.ensures.decoded run.takers parted.passes parted.numbered parted.full _ c.in_ok-left.ensures.left
    more rest
    parted.pieces parted.tables

pub report_run-requires-clause-outputs : goal.report_run-requires-clause-outputs
report_run-requires-clause-outputs g c =
    let made = c.in_ok-queue.ensures in
    let run = ok_of _ c.run_both-pool_workers.result.1 c.in_ok-cpus.field-0 c.in_ok-cpus.was
    c.run_both-pool_workers.ensures.ran in
    let parted = c.in_ok-parted.ensures in
    joins.outputs_long _ _ c.in_ok-queue.queue _ _ _ _ _ _ made.count refl made.takers made.workers c.in_ok-takers.ensures
    c.in_ok-pool_workers.ensures.passes
    c.run_both-pool_workers.ensures.decoded run.takers parted.passes parted.numbered parted.full _ c.in_ok-left.ensures.left _
    c.in_ok-outputs.ensures.1
    parted.pieces parted.tables c.in_ok-outputs.ensures.2

pub report_run-requires-clause-rings : goal.report_run-requires-clause-rings
report_run-requires-clause-rings g c =
    let run = ok_of _ c.run_both-pool_workers.result.1 c.in_ok-cpus.field-0 c.in_ok-cpus.was
    c.run_both-pool_workers.ensures.ran in
    rings_many c.args.job.now.setup.shape c.in_ok-cpus.field-0.notes.items c.in_ok-cpus.field-0.rings.items run.run.rings_are

pub returns : goal.returns
returns g c =
    let made = c.in_ok-queue.ensures in
    let run = ok_of _ c.run_both-pool_workers.result.1 c.in_ok-cpus.field-0 c.in_ok-cpus.was
    c.run_both-pool_workers.ensures.ran in
    let parted = c.in_ok-parted.ensures in
    let outputs = joins.outputs_read _ _ c.in_ok-queue.queue _ _ _ _ _ _ made.count refl made.takers made.workers
    c.in_ok-takers.ensures
    c.in_ok-pool_workers.ensures.passes
    c.run_both-pool_workers.ensures.decoded run.takers parted.passes parted.numbered parted.full _ c.in_ok-left.ensures.left _
    c.in_ok-outputs.ensures.1
    parted.pieces parted.tables c.in_ok-outputs.ensures.2 in
    let reported = c.in_ok-report.ensures.ran c.args.job.now c.args.ticks.now run.bytes run.ends run.run
    outputs in
    record { ran = record { bytes = run.bytes; ends = run.ends; gave = run.gave; run = reported.0; captured = reported.1 } }
