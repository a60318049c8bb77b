use Rattle.std.proofs.Common.{Some, sym, subst}
use Rattle.std.specs.Prelude.{Result}
use Rattle.frame_view.specs.declared.memory.Memory.{Memory}
use Rattle.tap_sizes.specs.Endings.{IsSizeSearched}
use Rattle.tap_sizes.specs.SizeWords.{SizeNamed, size_named}
use Rattle.tap_sizes.specs.declared.size_findings.SizeFinding.{SizeFinding}
use Rattle.tap_sizes.proofs.Searched.{stopped}
use Rattle.tap_sizes.proofs.searches.search_names.Goals as goal

pub returns-in-Err : goal.returns-in-Err
returns-in-Err g c =
    let named : SizeNamed = size_named c.args.asked.setup.now c.args.asked.reader.now in
    let old = g.S.Store.seen c.args.store.now in
    let new = g.S.Store.seen c.load_size_texts.new.store in
    subst (λ (r : Result SizeFinding Memory). IsSizeSearched (Some named) old new r)
    (sym c.stopped.ensures)
    (stopped old new named c.in-Err.stop c.load_size_texts.ensures.store c.in-Err.ensures.stop)
