use Rattle.std.proofs.Common.{◌<◌, ◌≤◌, get_or, length, map, rules, subst, sym, arith, List}
use Rattle.std.specs.Prelude.{option_map}
use Rattle.std.proofs.lemmas.List.{length-map}
use Rattle.receive_ring.specs.TakenOffers.{MayCome}
use Rattle.setup_text.specs.declared.lines.Line.{Line}
use Rattle.setup_text.specs.declared.lines.Line.TheVariants.{Feed}
use Rattle.replay_machine.proofs.Timed.{may-next}
use Rattle.tap_outside.specs.Seen.{SourceSeen}
use Rattle.replay_machine.specs.Reported.{reported_by}
use Rattle.replay_machine.specs.inside.RunEffects.{LineDone}
use Rattle.replay_machine.proofs.WholeRuns.{Did, did_first, did_more, told}
use Rattle.replay_machine.proofs.runs.replay_as.Goals as goal

pub loop-line-init : goal.loop-line-init
loop-line-init g c =
    let few : length (map (option_map {T = g.row.S.Denot} {U = SourceSeen} g.S.Source.seen) c.args.sources.items) ≤ 8 =
    let count = length-map c.args.sources.items (option_map {T = g.row.S.Denot} {U = SourceSeen} g.S.Source.seen) in
    let as_many = c.requires.sources in
    let most = c.args.job.now.runnable.few in
    omega (arith, count, as_many, most) in
    let did = did_first (g.R.ReceiveRing.steps g.K.Setting.shape) c.args.job.now c.args.schedule.now _ c.in_ok-run.run' few
    c.in_ok-run.ensures c.requires.schedule in
    record { run = did.run; timed = did.timed; does = did.does; firsts = did.firsts; counted = did.counted }

pub line-requires-clause-counted : goal.line-requires-clause-counted
line-requires-clause-counted g c =
    let within : c.loop-line.line-index < length c.args.schedule.now = search rules in
    let few = c.requires.few in
    (c.loop-line.line-index, omega (arith, within, few), c.loop-line.invariant.counted)

pub feed_rest-requires-clause-counted : goal.feed_rest-requires-clause-counted
feed_rest-requires-clause-counted g c =
    let all : c.loop-line.line-index ≤ length c.args.schedule.now = search rules in
    let few = c.requires.few in
    (c.loop-line.line-index, omega (arith, all, few), c.loop-line.invariant.counted)

pub line-requires-clause-later : goal.line-requires-clause-later
line-requires-clause-later g c =
    let lines = c.args.schedule.now in
    let P : List Line → Type 0 = λ lines. MayCome (get_or lines c.loop-line.line-index (Feed 0)) c.loop-line.run.members in
    let within : c.loop-line.line-index < length lines = search rules in
    subst P (sym c.as_slice-line-items.ensures)
    (may-next c.loop-line.line-index lines (Feed 0) c.loop-line.run.members within c.loop-line.invariant.timed)

pub loop-line-preserved : goal.loop-line-preserved
loop-line-preserved g c =
    let lines = c.args.schedule.now in
    let i = c.loop-line.invariant in
    let within : c.loop-line.line-index < length lines = search rules in
    let before : Did (g.R.ReceiveRing.steps g.K.Setting.shape) c.args.job.now lines c.loop-line.line-index c.in_ok-run.run'
    c.loop-line.run =
    record { run = i.run; timed = i.timed; does = i.does; firsts = i.firsts; counted = i.counted } in
    let done : LineDone (g.R.ReceiveRing.steps g.K.Setting.shape) c.args.job.now (get_or lines c.loop-line.line-index (Feed 0))
    c.loop-line.run c.line.new.self =
    subst (λ (ls : List Line). LineDone (g.R.ReceiveRing.steps g.K.Setting.shape) c.args.job.now
    (get_or ls c.loop-line.line-index (Feed 0)) c.loop-line.run c.line.new.self)
    c.as_slice-line-items.ensures c.in_ok-line.ensures in
    let did = did_more (g.R.ReceiveRing.steps g.K.Setting.shape) c.args.job.now lines c.loop-line.line-index c.in_ok-run.run'
    c.loop-line.run c.line.new.self within before done in
    record { run = did.run; timed = did.timed; does = did.does; firsts = did.firsts; counted = did.counted }

pub returns : goal.returns
returns g c =
    let lines = c.args.schedule.now in
    let i = c.loop-line.invariant in
    let past : length lines ≤ c.loop-line.line-index = search rules in
    let before : Did (g.R.ReceiveRing.steps g.K.Setting.shape) c.args.job.now lines c.loop-line.line-index c.in_ok-run.run'
    c.loop-line.run =
    record { run = i.run; timed = i.timed; does = i.does; firsts = i.firsts; counted = i.counted } in
    record {
      ran = told (g.R.ReceiveRing.steps g.K.Setting.shape) c.args.job.now lines _ c.in_ok-run.run' c.loop-line.run
          c.feed_rest.new.self c.loop-line.line-index c.in_ok-run.ensures before past
          c.in_ok-feed_rest.ensures c.finish.result
          (λ ran. map (option_map {T = g.row.S.Denot} {U = SourceSeen} g.S.Source.seen) ran.sources.items)
          (λ ran. ran.report) (reported_by g.R.Unit.Layout.text_of g.R.ReceiveRing.reads g.K.Setting.shape g.K.Setting.dumps)
          c.finish.ensures;
    }
