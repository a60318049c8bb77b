use Rattle.std.proofs.Common.{sym, subst}
use Rattle.std.specs.Prelude.{IfOk, Option, Result}
use Rattle.frame_view.specs.declared.memory.Memory.{Memory}
use Rattle.tap_engine.specs.Commands.{Named, named_by, plain_command}
use Rattle.tap_engine.specs.Conclusions.{IsSearched}
use Rattle.tap_engine.specs.Findings.{IsReady}
use Rattle.tap_engine.specs.Names.{AreMeantToRead}
use Rattle.tap_engine.specs.declared.findings.CommandResult.{CommandResult}
use Rattle.tap_engine.proofs.Found.{ready_of, searched}
use Rattle.tap_engine.proofs.command_runs.find_plain.Goals as goal

pub carry_out-requires-clause-reads : goal.carry_out-requires-clause-reads
carry_out-requires-clause-reads g c κs within =
    subst (λ (command : Option Named). AreMeantToRead command (g.S.Store.seen c.args.store.now))
    (sym c.in-Some.ensures.command) c.requires.reads

pub returns-clause-found : goal.returns-clause-found
returns-clause-found g c =
    let named : Named = named_by c.in-Some.asked.command c.in-Some.asked.setup.now
    c.in-Some.asked.schedule.now in
    let old = g.S.Store.seen c.args.store.now in
    let new = g.S.Store.seen c.carry_out.new.store in
    subst (λ (answer : Result CommandResult Memory). IsSearched (plain_command c.args.words.now) old new
    answer) (sym c.command_result_of.ensures)
    (searched _ old new named c.carry_out.result (sym c.in-Some.ensures.command)
    c.carry_out.ensures.store c.carry_out.ensures.found c.carry_out.ensures.stop)

pub returns-clause-ready : goal.returns-clause-ready
returns-clause-ready g c =
    subst (λ (answer : Result CommandResult Memory). IfOk answer IsReady) (sym c.command_result_of.ensures)
    (ready_of c.carry_out.result c.carry_out.ensures.ready)
