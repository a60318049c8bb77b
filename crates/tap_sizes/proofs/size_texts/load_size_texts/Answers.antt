use Rattle.std.proofs.lemmas.Result.{err_from_is_err_and}
use Rattle.setup_text.specs.declared.setups.Setup.{Setup}
use Rattle.tap_outside.proofs.Kept.{OnlyReads-then}
use Rattle.tap_running.proofs.MeantNames.{lent_meant}
use Rattle.tap_sizes.specs.SizeWords.{SizeNamed, size_named}
use Rattle.tap_sizes.proofs.MeantTexts.{rest_meant}
use Rattle.tap_sizes.proofs.Searched.{at_filter, setup_read}
use Rattle.tap_sizes.proofs.size_texts.load_size_texts.Goals as goal

pub load_program-requires-after_bounds : goal.load_program-requires-after_bounds
load_program-requires-after_bounds g c κs within =
    let old = g.S.Store.seen c.args.store.now in
    let mid = g.S.Store.seen c.load_setup.new.store in
    let named : SizeNamed = size_named c.args.asked.setup.now c.args.asked.reader.now in
    let setup : Setup = c.in_ok-setup.setup in
    let read = setup_read old (g.S.Store.seen c.read_text.new.store) mid named c.in_ok-reader.reader
    c.as_slice.result.now c.command_for-command.result c.in_ok-setup.setup
    c.in_ok-reader.ensures.texts c.in_ok-reader.ensures.text c.as_slice.ensures
    c.command_for-command.ensures c.in_ok-setup.ensures.setup in
    lent_meant mid.to_read _ c.filter_of.result setup.filter c.filter_of.ensures
    (rest_meant old mid mid named c.in_ok-reader.reader setup
    (g.met.S.Store.untold_reads c.args.store.now) c.requires read
    (OnlyReads-then _ _ _ c.read_text.ensures.store c.load_setup.ensures.store)).filter

pub returns-in_err-program-clause-stop : goal.returns-in_err-program-clause-stop
returns-in_err-program-clause-stop g c =
    let old = g.S.Store.seen c.args.store.now in
    let mid = g.S.Store.seen c.load_setup.new.store in
    let named : SizeNamed = size_named c.args.asked.setup.now c.args.asked.reader.now in
    let read = setup_read old (g.S.Store.seen c.read_text.new.store) mid named c.in_ok-reader.reader
    c.as_slice.result.now c.command_for-command.result c.in_ok-setup.setup
    c.in_ok-reader.ensures.texts c.in_ok-reader.ensures.text c.as_slice.ensures
    c.command_for-command.ensures c.in_ok-setup.ensures.setup in
    let stops = at_filter old mid (g.S.Store.seen c.load_program.new.store) named
    c.in_ok-reader.reader c.in_ok-setup.setup _ _ c.filter_of.ensures read
    c.in_err-program.ensures.stop in
    let p = err_from_is_err_and c.from_residual-in_err-program.result
    c.from_residual-in_err-program.ensures.1 in
    rw (p.1, p.2) stops

pub returns-clause-meant : goal.returns-clause-meant
returns-clause-meant g c =
    let old = g.S.Store.seen c.args.store.now in
    let mid = g.S.Store.seen c.load_setup.new.store in
    let named : SizeNamed = size_named c.args.asked.setup.now c.args.asked.reader.now in
    let read = setup_read old (g.S.Store.seen c.read_text.new.store) mid named c.in_ok-reader.reader
    c.as_slice.result.now c.command_for-command.result c.in_ok-setup.setup
    c.in_ok-reader.ensures.texts c.in_ok-reader.ensures.text c.as_slice.ensures
    c.command_for-command.ensures c.in_ok-setup.ensures.setup in
    rest_meant old mid (g.S.Store.seen c.load_program.new.store) named c.in_ok-reader.reader
    c.in_ok-setup.setup (g.met.S.Store.untold_reads c.args.store.now) c.requires read
    (OnlyReads-then _ _ _ (OnlyReads-then _ _ _ c.read_text.ensures.store c.load_setup.ensures.store)
    c.load_program.ensures.store)
