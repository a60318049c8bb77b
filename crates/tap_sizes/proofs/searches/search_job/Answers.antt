use Rattle.std.proofs.Common.{Some, sym, subst}
use Rattle.std.specs.Prelude.{Result}
use Rattle.frame_view.specs.declared.memory.Memory.{Memory}
use Rattle.tap_sizes.specs.Endings.{IsSizeSearched}
use Rattle.tap_sizes.specs.declared.size_findings.SizeFinding.{SizeFinding}
use Rattle.tap_sizes.proofs.Searched.{asked_of, reader_refused}
use Rattle.tap_sizes.proofs.searches.search_job.Goals as goal

pub returns-in-Ok : goal.returns-in-Ok
returns-in-Ok g c = λ start named read.
    c.search_captures.ensures start named
    (asked_of start (g.S.Store.seen c.args.store.now) named c.args.texts.now.reader
    c.args.texts.now.job c.in-Ok.reader read c.in-Ok.ensures.right)

pub returns-in-Err : goal.returns-in-Err
returns-in-Err g c = λ start named read.
    subst (λ (r : Result SizeFinding Memory).
    IsSizeSearched (Some named) start (g.S.Store.seen c.args.store.now) r)
    (sym c.refused.ensures)
    (reader_refused start (g.S.Store.seen c.args.store.now) named c.args.texts.now.reader
    c.args.texts.now.job c.in-Err.error read c.in-Err.ensures.right)
