use Rattle.std.proofs.Common.{inr}
use Rattle.std.proofs.lemmas.Result.{err_from_is_err_and}
use Rattle.tap_engine.proofs.Worked.{asked_in_time, threaded_ticks, timed}
use Rattle.tap_engine.proofs.threaded_runs.run_timed.Goals as goal

pub returns-in_err-moments-clause-stop : goal.returns-in_err-moments-clause-stop
returns-in_err-moments-clause-stop g c =
    let p = err_from_is_err_and c.from_residual.result
    c.from_residual.ensures.1 in
    rw (p.1, p.2) (λ start named texts is loaded.
    c.in_err-moments.ensures.stop start named texts c.args.job.now loaded
    (threaded_ticks named c.args.job.now.setup is))

pub returns-in_err-run_captures-clause-stop : goal.returns-in_err-run_captures-clause-stop
returns-in_err-run_captures-clause-stop g c =
    let p = err_from_is_err_and c.from_residual-in_err-run_captures.result
    c.from_residual-in_err-run_captures.ensures.1 in
    rw (p.1, p.2) (λ start named texts is loaded.
    inr (asked_in_time start (g.S.Store.seen c.args.store.now)
    (g.S.Store.seen c.load_moments.new.store) named texts c.args.job.now
    c.in_ok-moments.moments is loaded c.in_ok-moments.ensures.ticks))

pub returns-clause-reported : goal.returns-clause-reported
returns-clause-reported g c = λ start named texts is loaded.
    timed (g.S.Store.seen c.args.store.now) (g.S.Store.seen c.load_moments.new.store)
    (g.S.Store.seen c.run_captures.new.store) c.args.job.now c.in_ok-moments.moments
    c.in_ok-run_captures.field-0.report c.in_ok-moments.ensures.ticks
    c.in_ok-run_captures.ensures.reported start named texts is loaded
