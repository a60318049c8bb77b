use Rattle.tap_sizes.specs.SizeWords.{size_words}
use Rattle.tap_sizes.proofs.calls.run_size.Goals as goal

pub returns-clause-headline : goal.returns-clause-headline
returns-clause-headline g c =
    (c.finish.ensures (size_words c.args.words.now) (g.S.Store.seen c.args.store.now)
    (g.S.Store.seen c.search-found.new.store) c.search-found.ensures).headline

pub returns-clause-told : goal.returns-clause-told
returns-clause-told g c =
    (c.finish.ensures (size_words c.args.words.now) (g.S.Store.seen c.args.store.now)
    (g.S.Store.seen c.search-found.new.store) c.search-found.ensures).told

pub returns-clause-gave_up : goal.returns-clause-gave_up
returns-clause-gave_up g c =
    (c.finish.ensures (size_words c.args.words.now) (g.S.Store.seen c.args.store.now)
    (g.S.Store.seen c.search-found.new.store) c.search-found.ensures).gave_up

pub returns-clause-faultless : goal.returns-clause-faultless
returns-clause-faultless g c =
    (c.finish.ensures (size_words c.args.words.now) (g.S.Store.seen c.args.store.now)
    (g.S.Store.seen c.search-found.new.store) c.search-found.ensures).faultless

pub returns-clause-complete : goal.returns-clause-complete
returns-clause-complete g c =
    (c.finish.ensures (size_words c.args.words.now) (g.S.Store.seen c.args.store.now)
    (g.S.Store.seen c.search-found.new.store) c.search-found.ensures).complete
