use Rattle.std.proofs.Common.{inr}
use Rattle.std.proofs.lemmas.Result.{err_from_is_err_and}
use Rattle.tap_engine.proofs.Found.{at_schedule}
use Rattle.tap_engine.proofs.Worked.{asked_by_name, named_schedule, scheduled}
use Rattle.tap_engine.proofs.replay_runs.replay_scheduled.Goals as goal

pub returns-in_err-schedule-clause-stop : goal.returns-in_err-schedule-clause-stop
returns-in_err-schedule-clause-stop g c =
    let p = err_from_is_err_and c.from_residual.result c.from_residual.ensures.1 in
    rw (p.1, p.2) (λ start named texts is called loaded.
    at_schedule (g.S.Store.seen c.args.store.now) (g.S.Store.seen c.load_lines.new.store)
    c.args.name.now c.args.job.now _ c.in_err-schedule.ensures.stop start named texts
    (named_schedule c.args.command named c.requires.scheduled is) called loaded)

pub returns-in_err-replay_captures-clause-stop : goal.returns-in_err-replay_captures-clause-stop
returns-in_err-replay_captures-clause-stop g c =
    let p = err_from_is_err_and c.from_residual-in_err-replay_captures.result
    c.from_residual-in_err-replay_captures.ensures.1 in
    rw (p.1, p.2) (λ start named texts is called loaded.
    inr (asked_by_name start (g.S.Store.seen c.args.store.now)
    (g.S.Store.seen c.load_lines.new.store) named texts c.args.job.now
    c.args.name.now c.in_ok-schedule.schedule
    (named_schedule c.args.command named c.requires.scheduled is)
    called loaded c.in_ok-schedule.ensures.schedule))

pub returns-clause-reported : goal.returns-clause-reported
returns-clause-reported g c = λ start named texts is called loaded.
    scheduled (g.S.Store.seen c.args.store.now) (g.S.Store.seen c.load_lines.new.store)
    (g.S.Store.seen c.replay_captures.new.store) c.args.command c.args.job.now c.args.name.now
    c.in_ok-schedule.schedule c.in_ok-replay_captures.field-0 c.requires.scheduled
    c.in_ok-schedule.ensures.schedule
    c.in_ok-replay_captures.ensures.reported start named texts is called loaded
