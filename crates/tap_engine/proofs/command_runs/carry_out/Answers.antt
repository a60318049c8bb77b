use Rattle.std.proofs.Common.{sym, subst}
use Rattle.std.specs.Prelude.{Option, Some}
use Rattle.std.proofs.lemmas.Result.{err_from_is_err_and}
use Rattle.tap_outside.specs.Contents.{Contents}
use Rattle.tap_engine.specs.Commands.{Named, named_by}
use Rattle.tap_engine.specs.Jobs.{HasJob}
use Rattle.tap_running.proofs.Stores.{held_same}
use Rattle.tap_engine.proofs.Found.{meant_later}
use Rattle.tap_engine.proofs.command_runs.carry_out.Goals as goal

pub work-requires-clause-job : goal.work-requires-clause-job
work-requires-clause-job g c κs within =
    let named : Named = named_by c.args.asked.command c.args.asked.setup.now
    c.args.asked.schedule.now in
    let texts = c.in_ok-job.ensures.loaded.0 in
    let loaded = c.in_ok-job.ensures.loaded.1 in (
      texts,
      subst (λ (held : Option Contents). HasJob held named texts c.in_ok-job.job)
          (sym (held_same _ _ loaded.read_is.unfailed.only)) loaded.job_is,
    )

pub work-requires-clause-reads : goal.work-requires-clause-reads
work-requires-clause-reads g c κs within =
    let named : Named = named_by c.args.asked.command c.args.asked.setup.now
    c.args.asked.schedule.now in
    meant_later _ _ (Some named) c.in_ok-job.ensures.loaded.1.read_is.unfailed.only c.requires.reads

pub returns-clause-found : goal.returns-clause-found
returns-clause-found g c =
    rw (c.into_finding.ensures, c.rings_of.ensures)
    (c.in_ok-done.ensures.found (g.S.Store.seen c.args.store.now) c.in_ok-job.ensures.loaded.0
    c.in_ok-job.ensures.loaded.1)

pub returns-in_err-done-clause-stop : goal.returns-in_err-done-clause-stop
returns-in_err-done-clause-stop g c =
    let p = err_from_is_err_and c.from_residual-in_err-done.result
    c.from_residual-in_err-done.ensures.1 in
    rw (p.1, p.2) (c.in_err-done.ensures.stop (g.S.Store.seen c.args.store.now)
    c.in_ok-job.ensures.loaded.0 c.in_ok-job.ensures.loaded.1)
