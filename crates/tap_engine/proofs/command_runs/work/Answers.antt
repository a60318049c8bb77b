use Rattle.std.proofs.Common.{Bool, refl, sym, subst, ap, None, inr}
use Rattle.std.proofs.lemmas.Result.{err_from_is_err_and}
use Rattle.setup_text.specs.declared.commands.Command.{Command}
use Rattle.tap_engine.specs.Commands.{Named, named_by, sends}
use Rattle.tap_engine.specs.Findings.{IsSentBy, faults_in}
use Rattle.tap_running.proofs.Counted.{counts_later, counts_none}
use Rattle.tap_engine.proofs.Meant.{names_meant}
use Rattle.tap_engine.proofs.Worked.{checks, first_meant, made_read, replays_scheduled, replays_unsent}
use Rattle.tap_engine.proofs.Worked.{run_meant, schedule_meant, send_asked, sent_found, ticks_are, ticks_meant}
use Rattle.tap_engine.proofs.command_runs.work.Goals as goal

pub load_moments-requires-after_bounds : goal.load_moments-requires-after_bounds
load_moments-requires-after_bounds g c κs within =
    let store = g.S.Store.seen c.args.store.now in
    let named : Named = named_by c.args.asked.command c.args.asked.setup.now
    c.args.asked.schedule.now in
    let setup = c.args.job.now.setup in
    ticks_meant store.to_read named setup (ticks_are named setup c.in-Check.is)
    (names_meant store.held store.to_read named c.requires.job.0.setup setup
    (g.met.S.Store.untold_reads c.args.store.now) c.requires.reads c.requires.job.1.setup)

pub returns-in_err-load_moments-in-Check-clause-stop :
    goal.returns-in_err-load_moments-in-Check-clause-stop
returns-in_err-load_moments-in-Check-clause-stop g c =
    let named : Named = named_by c.args.asked.command c.args.asked.setup.now
    c.args.asked.schedule.now in
    let p = err_from_is_err_and c.from_residual.result
    c.from_residual.ensures.1 in
    rw (p.1, p.2) (λ start texts loaded. c.in_err-load_moments-in-Check.ensures.stop start named
    texts c.args.job.now loaded (ticks_are named c.args.job.now.setup c.in-Check.is))

pub replay_scheduled-requires-clause-schedule : goal.replay_scheduled-requires-clause-schedule
replay_scheduled-requires-clause-schedule g c κs within =
    let store = g.S.Store.seen c.args.store.now in
    let named : Named = named_by c.args.asked.command c.args.asked.setup.now
    c.args.asked.schedule.now in
    let setup = c.args.job.now.setup in
    schedule_meant store.to_read named setup (replays_scheduled named.command c.in-Replay.is)
    (names_meant store.held store.to_read named c.requires.job.0.setup setup
    (g.met.S.Store.untold_reads c.args.store.now) c.requires.reads c.requires.job.1.setup)

pub replay_scheduled-requires-clause-captures : goal.replay_scheduled-requires-clause-captures
replay_scheduled-requires-clause-captures g c κs within =
    let store = g.S.Store.seen c.args.store.now in
    let named : Named = named_by c.args.asked.command c.args.asked.setup.now
    c.args.asked.schedule.now in
    let setup = c.args.job.now.setup in
    run_meant store.to_read named setup (replays_scheduled named.command c.in-Replay.is)
    (names_meant store.held store.to_read named c.requires.job.0.setup setup
    (g.met.S.Store.untold_reads c.args.store.now) c.requires.reads c.requires.job.1.setup)

pub returns-in_err-report-in-Replay-clause-stop : goal.returns-in_err-report-in-Replay-clause-stop
returns-in_err-report-in-Replay-clause-stop g c =
    let named : Named = named_by c.args.asked.command c.args.asked.setup.now
    c.args.asked.schedule.now in
    let p = err_from_is_err_and c.from_residual-in_err-report-in-Replay.result
    c.from_residual-in_err-report-in-Replay.ensures.1 in
    rw (p.1, p.2) (λ start texts loaded.
    c.in_err-report-in-Replay.ensures.stop start named texts refl refl loaded)

pub send_capture-requires-clause-meant : goal.send_capture-requires-clause-meant
send_capture-requires-clause-meant g c κs within =
    let store = g.S.Store.seen c.args.store.now in
    let named : Named = named_by c.args.asked.command c.args.asked.setup.now
    c.args.asked.schedule.now in
    let setup = c.args.job.now.setup in
    first_meant store.to_read named setup c.in-Send.is
    (names_meant store.held store.to_read named c.requires.job.0.setup setup
    (g.met.S.Store.untold_reads c.args.store.now) c.requires.reads c.requires.job.1.setup)

pub returns-in_ok-report-in-Replay-clause-found : goal.returns-in_ok-report-in-Replay-clause-found
returns-in_ok-report-in-Replay-clause-found g c = λ start texts loaded.
    let named : Named = named_by c.args.asked.command c.args.asked.setup.now
    c.args.asked.schedule.now in
    let report = c.in_ok-report-in-Replay.report in (
      c.in_ok-report-in-Replay.ensures.reported start named texts refl refl loaded,
      counts_later (faults_in report.cpus) start _ _ loaded.read_is.unfailed
          c.in_ok-report-in-Replay.ensures.faults,
      subst (λ (sent : Bool). IsSentBy sent c.args.job.now.setup report None)
          (sym (replays_unsent named.command c.in-Replay.is)) tt,
      refl,
    )

pub returns-in_err-send_capture-in-Send-clause-stop :
    goal.returns-in_err-send_capture-in-Send-clause-stop
returns-in_err-send_capture-in-Send-clause-stop g c =
    let named : Named = named_by c.args.asked.command c.args.asked.setup.now
    c.args.asked.schedule.now in
    let p = err_from_is_err_and c.from_residual-in_err-send_capture-in-Send.result
    c.from_residual-in_err-send_capture-in-Send.ensures.1 in
    rw (p.1, p.2) (λ start texts loaded.
    inr (send_asked start.held named texts c.args.job.now c.in-Send.is loaded.job_is))

pub returns-in_ok-load_moments-in-Check-clause-found :
    goal.returns-in_ok-load_moments-in-Check-clause-found
returns-in_ok-load_moments-in-Check-clause-found g c = λ start texts loaded.
    let named : Named = named_by c.args.asked.command c.args.asked.setup.now
    c.args.asked.schedule.now in
    let moments = c.in_ok-load_moments-in-Check.ensures in
    checks start (g.S.Store.seen c.args.store.now) (g.S.Store.seen c.load_moments.new.store) named
    texts c.args.job.now c.in_ok-load_moments-in-Check.field-0 c.in-Check.is loaded moments.ticks

pub returns-in_ok-replay_made-in-Make-clause-found :
    goal.returns-in_ok-replay_made-in-Make-clause-found
returns-in_ok-replay_made-in-Make-clause-found g c = λ start texts loaded.
    let named : Named = named_by c.args.asked.command c.args.asked.setup.now
    c.args.asked.schedule.now in
    let old = g.S.Store.seen c.args.store.now in
    let report = c.in_ok-replay_made-in-Make.field-0 in
    let made = c.in_ok-replay_made-in-Make.ensures in (
      made.reported start old named texts c.in-Make.is
          (made_read start old named texts c.args.job.now c.in-Make.is loaded),
      counts_later (faults_in report.cpus) start old old loaded.read_is.unfailed
          (counts_none (faults_in report.cpus) old made.faults),
      subst (λ (sent : Bool). IsSentBy sent c.args.job.now.setup report None)
          (sym (ap (λ (command : Command). sends command) c.in-Make.is)) tt,
      refl,
    )

pub returns-in_ok-send_capture-in-Send-clause-found :
    goal.returns-in_ok-send_capture-in-Send-clause-found
returns-in_ok-send_capture-in-Send-clause-found g c = λ start texts loaded.
    let named : Named = named_by c.args.asked.command c.args.asked.setup.now
    c.args.asked.schedule.now in
    sent_found start (g.S.Store.seen c.args.store.now) (g.S.Store.seen c.send_capture.new.store)
    named texts c.args.job.now c.in_ok-send_capture-in-Send.field-0 c.in-Send.is loaded
    c.in_ok-send_capture-in-Send.ensures.sent c.in_ok-send_capture-in-Send.ensures.faults
