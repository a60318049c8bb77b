use Rattle.std.proofs.Common.{◌<◌, ◌^◌, List, arith, length, sym, subst}
use Rattle.made_captures.proofs.Scheduled.{made_lines_ascend, made_lines_few}
use Rattle.setup_text.specs.TickOrder.{IsSchedule}
use Rattle.setup_text.specs.declared.lines.Line.{Line}
use Rattle.tap_engine.proofs.MadeRuns.{made_run}
use Rattle.tap_engine.proofs.replay_runs.replay_made.Goals as goal

pub returns-clause-reported : goal.returns-clause-reported
returns-clause-reported c =
    (made_run c.args.job.now c.in_ok-schedule.schedule
    c.in_ok-sources.sources.items c.in_ok-report.field-0.sources.items c.len-cpus.result
    c.members.result c.in_ok-report.field-0.report
    c.requires.setup c.len-cpus.ensures.value c.members.ensures.value
    c.in_ok-sources.ensures.sources c.in_ok-schedule.ensures.lines
    c.in_ok-report.ensures.ran).reported

pub returns-clause-faults : goal.returns-clause-faults
returns-clause-faults c =
    (made_run c.args.job.now c.in_ok-schedule.schedule
    c.in_ok-sources.sources.items c.in_ok-report.field-0.sources.items c.len-cpus.result
    c.members.result c.in_ok-report.field-0.report
    c.requires.setup c.len-cpus.ensures.value c.members.ensures.value
    c.in_ok-sources.ensures.sources c.in_ok-schedule.ensures.lines
    c.in_ok-report.ensures.ran).faults

pub returns-clause-small : goal.returns-clause-small
returns-clause-small c =
    (made_run c.args.job.now c.in_ok-schedule.schedule
    c.in_ok-sources.sources.items c.in_ok-report.field-0.sources.items c.len-cpus.result
    c.members.result c.in_ok-report.field-0.report
    c.requires.setup c.len-cpus.ensures.value c.members.ensures.value
    c.in_ok-sources.ensures.sources c.in_ok-schedule.ensures.lines
    c.in_ok-report.ensures.ran).small

pub replay-requires-clause-schedule : goal.replay-requires-clause-schedule
replay-requires-clause-schedule c =
    subst (λ (lines : List Line). IsSchedule lines) (sym c.in_ok-schedule.ensures.lines)
    (made_lines_ascend _ _ _)

pub replay-requires-clause-few : goal.replay-requires-clause-few
replay-requires-clause-few c =
    let few = made_lines_few c.args.job.now.setup.count c.len-cpus.result c.members.result
    c.requires.setup.count c.members.ensures.few in
    subst (λ (lines : List Line). length lines < 2 ^ 32) (sym c.in_ok-schedule.ensures.lines)
    (omega (arith, few))
