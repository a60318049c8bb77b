use Rattle.tap_engine.specs.Commands.{command_of}
use Rattle.tap_engine.proofs.Found.{searched_meant}
use Rattle.tap_engine.proofs.calls.run.Goals as goal

pub finish-requires-clause-meant : goal.finish-requires-clause-meant
finish-requires-clause-meant g c κs within =
    searched_meant _ _ _ c.find-found.result (g.met.S.Store.untold_saves c.args.store.now)
    c.requires.saves c.find-found.ensures.found

pub returns-clause-headline : goal.returns-clause-headline
returns-clause-headline g c =
    (c.finish.ensures (command_of c.args.words.now) (g.S.Store.seen c.args.store.now)
    c.find-found.ensures.found).headline

pub returns-clause-told : goal.returns-clause-told
returns-clause-told g c =
    (c.finish.ensures (command_of c.args.words.now) (g.S.Store.seen c.args.store.now)
    c.find-found.ensures.found).told

pub returns-clause-gave_up : goal.returns-clause-gave_up
returns-clause-gave_up g c =
    (c.finish.ensures (command_of c.args.words.now) (g.S.Store.seen c.args.store.now)
    c.find-found.ensures.found).gave_up

pub returns-clause-no_memory : goal.returns-clause-no_memory
returns-clause-no_memory g c =
    (c.finish.ensures (command_of c.args.words.now) (g.S.Store.seen c.args.store.now)
    c.find-found.ensures.found).no_memory

pub returns-clause-complete : goal.returns-clause-complete
returns-clause-complete g c =
    (c.finish.ensures (command_of c.args.words.now) (g.S.Store.seen c.args.store.now)
    c.find-found.ensures.found).complete

pub returns-clause-faultless : goal.returns-clause-faultless
returns-clause-faultless g c =
    (c.finish.ensures (command_of c.args.words.now) (g.S.Store.seen c.args.store.now)
    c.find-found.ensures.found).faultless
