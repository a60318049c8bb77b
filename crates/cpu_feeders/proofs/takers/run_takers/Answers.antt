use Rattle.std.proofs.Common.{subst, sym}
use Rattle.std.proofs.lemmas.Result.{IfOk-weaker}
use Rattle.std.specs.Prelude.{map, option_map}
use Rattle.setup_text.specs.Sound.{AreMoments}
use Rattle.tap_outside.specs.Seen.{SourceSeen}
use Rattle.cpu_feeders.specs.WorkerEffects.{IsReadyWorker}
use Rattle.cpu_feeders.specs.declared.worker.Worker.{Worker}
use Rattle.cpu_feeders.proofs.AtEnd.{at_place}
use Rattle.cpu_feeders.proofs.FreshThreads.{fresh_threads_ready, some_fresh_threads}
use Rattle.cpu_feeders.proofs.JoinedThreads.{have_worked}
use Rattle.cpu_feeders.proofs.takers.run_takers.Goals as goal

pub run_all-requires-clause-moments : goal.run_all-requires-clause-moments
run_all-requires-clause-moments g c κs within = subst AreMoments (sym c.as_slice.ensures) c.requires.moments

pub run_all-requires-clause-some : goal.run_all-requires-clause-some
run_all-requires-clause-some g c κs within =
    rw c.deref_mut.ensures.value
    (some_fresh_threads g.T.Taker.base g.T.Taker.taken c.args.job.now _ _ _ _ _ c.in_ok-threads.threads.workers.items
    c.in_ok-threads.ensures)

pub run_all-requires-clause-ready : goal.run_all-requires-clause-ready
run_all-requires-clause-ready g c κs within =
    let ready = fresh_threads_ready g.T.Taker.base g.T.Taker.taken c.args.job.now _ _ _ _ _ _ c.in_ok-threads.ensures in
    let P : Worker g.row.S.Denot g.row.T.Denot → Type 0 =
    IsReadyWorker g.T.Taker.base g.T.Taker.taken c.args.job.now c.in_ok-threads.threads.members.items
    c.in_ok-threads.threads.dealer in
    rw (c.deref_mut.ensures.value, c.deref.ensures.value)
    (λ k d below. at_place P c.in_ok-threads.threads.workers.items k d ready below)

pub close_threads-requires : goal.close_threads-requires
close_threads-requires g c =
    let firsts = map (option_map {T = g.row.S.Denot} {U = SourceSeen} g.S.Source.seen) c.args.sources.items in
    record {
      worked = (
        c.args.ticks.now,
        firsts,
        c.args.takers.items,
        have_worked g.T.Taker.base g.T.Taker.taken c.args.job.now c.args.ticks.now _ firsts c.args.takers.items _ _ _ _ _ _ _ _
            c.in_ok-threads.ensures
            c.as_slice.ensures c.deref.ensures.value c.deref_mut.ensures.value c.deref_mut.ensures.len c.run_all.ensures.count
            c.run_all.ensures.done,
      );
    }

pub returns : goal.returns
returns g c =
    let firsts = map (option_map {T = g.row.S.Denot} {U = SourceSeen} g.S.Source.seen) c.args.sources.items in
    let worked = have_worked g.T.Taker.base g.T.Taker.taken c.args.job.now c.args.ticks.now _ firsts c.args.takers.items _ _ _ _
    _ _ _ _ c.in_ok-threads.ensures
    c.as_slice.ensures c.deref.ensures.value c.deref_mut.ensures.value c.deref_mut.ensures.len c.run_all.ensures.count
    c.run_all.ensures.done in
    record {
      ran = IfOk-weaker c.close_threads.result _ _
          (λ workers left. left c.args.ticks.now firsts c.args.takers.items worked) c.close_threads.ensures;
    }
