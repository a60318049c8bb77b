use Rattle.std.proofs.Common.{ℕ, ◌-◌, ap, ◌∙◌, map}
use Rattle.ring_sizes.specs.Courses.{all_went_on}
use Rattle.ring_sizes.specs.Schedules.{beats, beats_between, ticks_by}
use Rattle.ring_sizes.proofs.Quiets.{nothing_goes, stays_quiet}
use Rattle.group_sizes.proofs.Mapped.{mapped_alone}
use Rattle.group_sizes.proofs.member_rests.rest_between.Goals as goal

pub returns-then-at-until-clause-goes : goal.returns-then-at-until-clause-goes
returns-then-at-until-clause-goes c = λ room.
    mapped_alone (all_went_on room c.args.blocks c.args.pace.now.tov
    (beats_between c.args.stalls.now c.args.pace.now c.args.since c.args.at))
    (λ course. nothing_goes c.args.pace.now c.args.since c.args.at c.args.until c.requires.sound c.requires.later
    c.requires.quiet c.if-at-until.true c.args.stalls.now c.args.blocks course room) c.args.courses.now

pub returns-then-at-until-clause-quiet : goal.returns-then-at-until-clause-quiet
returns-then-at-until-clause-quiet c =
    stays_quiet c.args.pace.now c.args.since c.args.at c.args.until c.requires.sound c.requires.later c.requires.quiet
    c.if-at-until.true

pub returns-clause-goes : goal.returns-clause-goes
returns-clause-goes c = λ room.
    c.rest.ensures.goes room
    ∙ ap (λ (last : ℕ). map (all_went_on room c.args.blocks c.args.pace.now.tov
    (beats c.args.stalls.now c.args.pace.now (last - ticks_by c.args.pace.now c.args.since)
    (ticks_by c.args.pace.now c.args.since) c.args.since c.args.at)) c.args.courses.now) c.ticks_by.ensures
