use Rattle.std.proofs.Common.{ℕ, List, Bool, Option, sym, subst}
use Rattle.std.specs.Prelude.{IfSome, IsTrue}
use Rattle.std.proofs.lemmas.Result.{err_from_is_err_and}
use Rattle.setup_text.specs.declared.setups.Setup.{Setup}
use Rattle.tap_engine.specs.Commands.{Named, named_by}
use Rattle.tap_engine.specs.Names.{filter_for}
use Rattle.tap_running.proofs.Stores.{to_read_same}
use Rattle.tap_engine.proofs.Worked.{loads_both}
use Rattle.tap_running.proofs.MeantNames.{lent_meant}
use Rattle.tap_engine.proofs.Meant.{names_meant}
use Rattle.tap_engine.proofs.jobs.load_job.Goals as goal

pub load_program-requires-after_bounds : goal.load_program-requires-after_bounds
load_program-requires-after_bounds g c κs within =
    let store = g.S.Store.seen c.args.store.now in
    let named : Named = named_by c.args.asked.command c.args.asked.setup.now
    c.args.asked.schedule.now in
    let setup : Setup = c.in_ok-setup.setup in
    subst (λ (meant : List ℕ → Bool). IfSome c.filter_for.result (λ name. IsTrue (meant name.now)))
    (sym (to_read_same _ _ c.in_ok-setup.ensures.setup.texts.unfailed.only))
    (lent_meant store.to_read _ c.filter_for.result (filter_for named.command setup)
    c.filter_for.ensures
    (names_meant store.held store.to_read named c.in_ok-setup.ensures.setup.text setup
    (g.met.S.Store.untold_reads c.args.store.now) c.requires c.in_ok-setup.ensures.setup.says).filter)

pub returns-in_err-program-clause-stop : goal.returns-in_err-program-clause-stop
returns-in_err-program-clause-stop g c =
    let named : Named = named_by c.args.asked.command c.args.asked.setup.now
    c.args.asked.schedule.now in
    let first = c.in_ok-setup.ensures.setup in
    let stops = c.in_err-program.ensures.stop (g.S.Store.seen c.args.store.now) named first.text
    c.in_ok-setup.setup first.texts first.says (sym c.filter_for.ensures) in
    let p = err_from_is_err_and c.from_residual-in_err-program.result
    c.from_residual-in_err-program.ensures.1 in
    rw (p.1, p.2) stops

pub returns-clause-loaded : goal.returns-clause-loaded
returns-clause-loaded g c =
    let named : Named = named_by c.args.asked.command c.args.asked.setup.now
    c.args.asked.schedule.now in
    loads_both (g.S.Store.seen c.args.store.now) (g.S.Store.seen c.load_setup.new.store)
    (g.S.Store.seen c.load_program.new.store) named _ _ c.filter_for.ensures
    c.in_ok-setup.ensures.setup c.in_ok-program.ensures.program
