use Rattle.std.proofs.Common.{sym, subst}
use Rattle.std.specs.Prelude.{ℕ, List, All, Bool, IfSome, IsTrue}
use Rattle.std.proofs.lemmas.Result.{err_from_is_err_and}
use Rattle.setup_text.specs.declared.setups.Setup.{Setup}
use Rattle.tap_engine.specs.Commands.{Named, named_by}
use Rattle.tap_engine.specs.Findings.{IsSentBy, faults_in}
use Rattle.tap_running.proofs.Counted.{counts_later}
use Rattle.tap_running.proofs.Stores.{to_read_same}
use Rattle.tap_engine.proofs.Meant.{names_meant}
use Rattle.tap_engine.proofs.Worked.{threaded_meant, threaded_rings, threaded_ticks, ticks_meant}
use Rattle.tap_engine.proofs.command_runs.run_threads.Goals as goal

pub run_timed-requires-clause-ticks : goal.run_timed-requires-clause-ticks
run_timed-requires-clause-ticks g c κs within =
    let store = g.S.Store.seen c.args.store.now in
    let named : Named = named_by c.args.asked.command c.args.asked.setup.now
    c.args.asked.schedule.now in
    let setup : Setup = c.in_ok-job.job.setup in
    subst (λ (meant : List ℕ → Bool). IfSome setup.ticks (λ name. IsTrue (meant name)))
    (sym (to_read_same _ _ c.in_ok-job.ensures.loaded.1.read_is.unfailed.only))
    (ticks_meant store.to_read named setup (threaded_ticks named setup c.requires.threaded)
    (names_meant store.held store.to_read named c.in_ok-job.ensures.loaded.0.setup setup
    (g.met.S.Store.untold_reads c.args.store.now) c.requires.reads
    c.in_ok-job.ensures.loaded.1.job_is.setup))

pub run_timed-requires-clause-captures : goal.run_timed-requires-clause-captures
run_timed-requires-clause-captures g c κs within =
    let store = g.S.Store.seen c.args.store.now in
    let named : Named = named_by c.args.asked.command c.args.asked.setup.now
    c.args.asked.schedule.now in
    let setup : Setup = c.in_ok-job.job.setup in
    subst (λ (meant : List ℕ → Bool). All (λ cpu. IsTrue (meant cpu.file)) setup.cpus)
    (sym (to_read_same _ _ c.in_ok-job.ensures.loaded.1.read_is.unfailed.only))
    (threaded_meant store.to_read named setup c.requires.threaded
    (names_meant store.held store.to_read named c.in_ok-job.ensures.loaded.0.setup setup
    (g.met.S.Store.untold_reads c.args.store.now) c.requires.reads
    c.in_ok-job.ensures.loaded.1.job_is.setup))

pub returns-in_err-report-clause-stop : goal.returns-in_err-report-clause-stop
returns-in_err-report-clause-stop g c =
    let named : Named = named_by c.args.asked.command c.args.asked.setup.now
    c.args.asked.schedule.now in
    let p = err_from_is_err_and c.from_residual-in_err-report.result
    c.from_residual-in_err-report.ensures.1 in
    rw (p.1, p.2) (c.in_err-report.ensures.stop (g.S.Store.seen c.args.store.now) named
    c.in_ok-job.ensures.loaded.0 c.requires.threaded c.in_ok-job.ensures.loaded.1)

pub returns-clause-found : goal.returns-clause-found
returns-clause-found g c =
    let named : Named = named_by c.args.asked.command c.args.asked.setup.now
    c.args.asked.schedule.now in
    let old = g.S.Store.seen c.args.store.now in
    let run = c.in_ok-report.field-0 in
    let sent = subst (λ (sent : Bool). IsSentBy sent c.in_ok-job.job.setup run.report run.forwards)
    c.sends-sends.ensures c.in_ok-report.ensures.sent in (
      c.in_ok-report.ensures.reported old named c.in_ok-job.ensures.loaded.0 c.requires.threaded
          c.in_ok-job.ensures.loaded.1,
      counts_later (faults_in run.report.cpus) old _ _ c.in_ok-job.ensures.loaded.1.read_is.unfailed
          c.in_ok-report.ensures.faults,
      sent,
      threaded_rings named.command c.requires.threaded,
    )
