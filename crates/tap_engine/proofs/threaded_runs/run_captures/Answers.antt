use Rattle.std.proofs.Common.{map, sym, ◌∙◌}
use Rattle.std.specs.Prelude.{option_map}
use Rattle.std.proofs.lemmas.List.{length-map}
use Rattle.run_reports.specs.declared.ring_kind.RingKind.TheVariants.{Blocks}
use Rattle.tap_engine.proofs.Fetched.{as_many}
use Rattle.tap_engine.proofs.Forwarded.{sends_short}
use Rattle.tap_engine.proofs.Made.{faults_counted, small_run, threaded_reported}
use Rattle.tap_engine.proofs.threaded_runs.run_captures.Goals as goal

pub run_sources-requires-clause-sources : goal.run_sources-requires-clause-sources
run_sources-requires-clause-sources g c κs within =
    sym (length-map c.in_ok-sources.sources.items (option_map g.S.Input.Source.seen))
    ∙ as_many (g.S.Store.seen c.args.store.now).held c.args.job.now.setup.cpus
    (map (option_map g.S.Input.Source.seen) c.in_ok-sources.sources.items)
    c.in_ok-sources.ensures.fetched

pub returns-clause-reported : goal.returns-clause-reported
returns-clause-reported g c = λ start named texts is read ticks.
    threaded_reported start (g.S.Store.seen c.args.store.now)
    (g.S.Store.seen c.fetch_captures.new.store) (g.S.Store.seen c.close_captures.new.store) named
    texts c.args.job.now
    c.args.moments.now _ _ c.in_ok-ran.ran.report c.in_ok-ran.ensures.ran
    (c.in_ok-sources.ensures.fetched, c.in_ok-sources.ensures.given, c.close_captures.ensures.given)
    is read ticks

pub returns-clause-faults : goal.returns-clause-faults
returns-clause-faults g c =
    let ran = c.in_ok-ran.ensures.ran in
    faults_counted (g.S.Store.seen c.args.store.now).held Blocks c.args.job.now _ _ ran.bytes ran.ends
    c.in_ok-ran.ran.report _ _ _
    c.in_ok-sources.ensures.fetched ran.gave ran.run c.in_ok-sources.ensures.faults
    c.close_captures.ensures.faults

pub returns-clause-small : goal.returns-clause-small
returns-clause-small g c =
    let ran = c.in_ok-ran.ensures.ran in
    let old = map (option_map g.S.Input.Source.seen) c.in_ok-sources.sources.items in
    small_run Blocks c.args.job.now old _ ran.bytes ran.ends c.in_ok-ran.ran.report
    c.requires.setup
    (as_many (g.S.Store.seen c.args.store.now).held c.args.job.now.setup.cpus old
    c.in_ok-sources.ensures.fetched) ran.gave ran.run

pub returns-clause-short : goal.returns-clause-short
returns-clause-short g c =
    sends_short c.args.sends c.args.job.now.setup c.in_ok-ran.ran.report
    c.in_ok-ran.forwards c.requires.setup c.in_ok-ran.ensures.sent
