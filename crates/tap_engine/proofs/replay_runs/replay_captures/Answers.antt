use Rattle.std.proofs.Common.{map, sym, ap, subst, ◌∙◌}
use Rattle.std.specs.Prelude.{option_map}
use Rattle.std.proofs.lemmas.List.{length-map}
use Rattle.tap_engine.specs.Commands.{rings_of}
use Rattle.tap_engine.specs.inside.Replays.{IsReplayedBy}
use Rattle.tap_engine.proofs.Fetched.{as_many}
use Rattle.tap_engine.proofs.Made.{faults_counted, replay_reported, replays}
use Rattle.tap_engine.proofs.Worked.{named_schedule, slots_asked}
use Rattle.tap_engine.proofs.replay_runs.replay_captures.Goals as goal

pub replay_over-requires-clause-ring : goal.replay_over-requires-clause-ring
replay_over-requires-clause-ring g c = λ is.
    slots_asked c.args.command c.args.job.now.setup c.requires.setup c.requires.ring
    (sym c.rings_of.ensures ∙ is)

pub replay_over-requires-clause-sources : goal.replay_over-requires-clause-sources
replay_over-requires-clause-sources g c =
    sym (length-map c.in_ok-sources.sources.items (option_map g.S.Input.Source.seen))
    ∙ as_many (g.S.Store.seen c.args.store.now).held c.args.job.now.setup.cpus
    (map (option_map g.S.Input.Source.seen) c.in_ok-sources.sources.items)
    c.in_ok-sources.ensures.fetched

pub returns-clause-reported : goal.returns-clause-reported
returns-clause-reported g c = λ start named texts is read lines.
    let held = (g.S.Store.seen c.args.store.now).held in
    let job = c.args.job.now in
    let report = c.in_ok-report.field-0.report in
    let old = map (option_map g.S.Input.Source.seen) c.in_ok-sources.sources.items in
    let new = map (option_map g.S.Input.Source.seen) c.in_ok-report.field-0.sources.items in
    replay_reported start (g.S.Store.seen c.args.store.now)
    (g.S.Store.seen c.fetch_captures.new.store) (g.S.Store.seen c.close_captures.new.store) named
    texts job c.args.schedule.now old new report
    (replays (rings_of named.command) job c.args.schedule.now old new report
    c.requires.setup (as_many held job.setup.cpus old c.in_ok-sources.ensures.fetched)
    (subst (λ rings. IsReplayedBy rings job c.args.schedule.now old new report)
    (c.rings_of.ensures ∙ ap rings_of (sym is)) c.in_ok-report.ensures.ran))
    (c.in_ok-sources.ensures.fetched, c.in_ok-sources.ensures.given, c.close_captures.ensures.given)
    (named_schedule c.args.command named c.requires.scheduled is) read lines

pub returns-clause-faults : goal.returns-clause-faults
returns-clause-faults g c =
    let ran = c.in_ok-report.ensures.ran in
    faults_counted (g.S.Store.seen c.args.store.now).held c.rings_of.result c.args.job.now _ _
    ran.bytes ran.ends c.in_ok-report.field-0.report _ _ _
    c.in_ok-sources.ensures.fetched ran.gave ran.run c.in_ok-sources.ensures.faults
    c.close_captures.ensures.faults

pub returns-clause-small : goal.returns-clause-small
returns-clause-small g c =
    let held = (g.S.Store.seen c.args.store.now).held in
    let old = map (option_map g.S.Input.Source.seen) c.in_ok-sources.sources.items in
    let new = map (option_map g.S.Input.Source.seen) c.in_ok-report.field-0.sources.items in
    (replays c.rings_of.result c.args.job.now c.args.schedule.now old new
    c.in_ok-report.field-0.report c.requires.setup
    (as_many held c.args.job.now.setup.cpus old c.in_ok-sources.ensures.fetched)
    c.in_ok-report.ensures.ran).small
