use Rattle.std.proofs.Common.{sym, subst}
use Rattle.std.specs.Prelude.{Option}
use Rattle.tap_engine.specs.Commands.{Named}
use Rattle.tap_engine.specs.Names.{AreMeantToRead}
use Rattle.tap_engine.proofs.command_runs.find.Goals as goal

pub run_threads-requires-clause-reads : goal.run_threads-requires-clause-reads
run_threads-requires-clause-reads g c κs within =
    subst (λ (command : Option Named). AreMeantToRead command (g.S.Store.seen c.args.store.now))
    (sym c.in-Some.ensures) c.requires.reads

pub carry_out-requires-clause-reads : goal.carry_out-requires-clause-reads
carry_out-requires-clause-reads g c κs within =
    subst (λ (command : Option Named). AreMeantToRead command (g.S.Store.seen c.args.store.now))
    (sym c.in-Some.ensures) c.requires.reads
