use Rattle.std.proofs.Common.{◌≡◌, None, rules, sym, ◌∙◌}
use Rattle.std.proofs.lemmas.Result.{err_from_is_err_and}
use Rattle.tap_sizes.specs.Tried.{unanswered_by}
use Rattle.tap_sizes.proofs.Searched.{cut_later, measured, unanswered_found}
use Rattle.tap_sizes.proofs.searches.search_captures.Goals as goal

pub returns-in-Some : goal.returns-in-Some
returns-in-Some g c = λ start named asked.
    unanswered_found start (g.S.Store.seen c.args.store.now) named c.args.job.now c.args.reader.now
    c.in-Some.why asked (sym c.unanswered.ensures ∙ c.in-Some.is)

pub returns : goal.returns
returns g c = λ start named asked.
    let old = g.S.Store.seen c.args.store.now in
    let new = g.S.Store.seen c.read_cpus.new.store in
    let read = c.in_ok-reads.ensures.read in
    let none : unanswered_by c.args.reader.now ≡ None = search rules in
    measured start old new named c.args.job.now c.args.reader.now read.0 _ _ c.measure.result asked
    none c.read_cpus.ensures.store read.1 (c.measure.ensures _ _ read.0 read.1)

pub returns-in_err-reads : goal.returns-in_err-reads
returns-in_err-reads g c = λ start named asked.
    let p = err_from_is_err_and c.from_residual.result
    c.from_residual.ensures.1 in
    rw p.1 (cut_later start (g.S.Store.seen c.args.store.now) (g.S.Store.seen c.read_cpus.new.store)
    named c.args.job.now c.args.reader.now p.0 asked c.read_cpus.ensures.store)
