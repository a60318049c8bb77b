use Rattle.std.proofs.Common.{ℕ, ◌-◌, ap, ◌∙◌, arith}
use Rattle.ring_sizes.specs.Courses.{all_went_on}
use Rattle.ring_sizes.specs.Schedules.{beats, ticks_by}
use Rattle.ring_sizes.proofs.Counts.{ticks_rise}
use Rattle.ring_sizes.proofs.Quiets.{nothing_goes, stays_as_small, stays_quiet}
use Rattle.ring_sizes.proofs.courses.Course.rest_between.Goals as goal

pub returns-then-at-until-clause-goes : goal.returns-then-at-until-clause-goes
returns-then-at-until-clause-goes c =
    nothing_goes c.args.pace.now c.args.since c.args.at c.args.until c.requires.sound c.requires.later c.requires.quiet
    c.if-at-until.true c.args.stalls.now c.args.blocks c.args.self.now

pub returns-then-at-until-clause-small : goal.returns-then-at-until-clause-small
returns-then-at-until-clause-small c =
    stays_as_small c.args.pace.now c.args.since c.args.at c.args.until c.requires.sound c.requires.later c.requires.quiet
    c.if-at-until.true c.args.self.now

pub returns-then-at-until-clause-quiet : goal.returns-then-at-until-clause-quiet
returns-then-at-until-clause-quiet c =
    stays_quiet c.args.pace.now c.args.since c.args.at c.args.until c.requires.sound c.requires.later c.requires.quiet
    c.if-at-until.true

pub returns-clause-goes : goal.returns-clause-goes
returns-clause-goes c = λ room.
    c.rest.ensures.goes room
    ∙ ap (λ (last : ℕ). all_went_on room c.args.blocks c.args.pace.now.tov
    (beats c.args.stalls.now c.args.pace.now (last - ticks_by c.args.pace.now c.args.since)
    (ticks_by c.args.pace.now c.args.since) c.args.since c.args.at) c.args.self.now) c.ticks_by.ensures

pub returns-clause-small : goal.returns-clause-small
returns-clause-small c = λ bound small.
    c.rest.ensures.small bound (ticks_by c.args.pace.now c.args.at)
    (ticks_rise c.args.pace.now c.args.since c.args.at c.requires.sound.tov c.requires.later)
    (omega (arith, c.ticks_by.ensures)) small
