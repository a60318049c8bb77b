use Rattle.std.proofs.Common.{◌+◌, ◌-◌, ◌<◌, ◌^◌, ap, ◌∙◌, arith}
use Rattle.ring_sizes.specs.Courses.{first_course}
use Rattle.ring_sizes.specs.Schedules.{ticks_by}
use Rattle.ring_sizes.proofs.Counts.{ticks_few}
use Rattle.group_sizes.proofs.GroupBeats.{drops_end, first_is}
use Rattle.group_sizes.proofs.RestSmall.{all_small}
use Rattle.group_sizes.proofs.group_walks.group_drops_at.Goals as goal

pub drops_of-requires-clause-small : goal.drops_of-requires-clause-small
drops_of-requires-clause-small c =
    let pace = c.args.pace.now in
    let few : ticks_by pace c.args.end < 2 ^ 54 =
    ticks_few pace c.args.end c.requires.sound (omega (arith, c.requires.frames.soon)) in
    all_small 0 c.args.rings.now.blocks c.args.stalls.now pace (2 ^ 60 + 2 ^ 54) (2 ^ 61)
    (c.ticks_by-last.result - ticks_by pace c.walk-at.result) (ticks_by pace c.walk-at.result) c.walk-at.result
    (c.args.end + 1) c.walk-at.new.courses c.rest.new.courses (omega (arith, few, c.ticks_by-last.ensures))
    (c.rest.ensures.goes 0) c.walk-at.ensures.small

pub returns : goal.returns
returns c =
    let begun = first_is c.args.rings.now c.args.pace.now.tov _ _ c.new-all_courses.result
    (c.new-all_courses.ensures ∙ ap first_course c.from.ensures) c.split_at_mut-courses.ensures.front
    c.split_at_mut-presents.ensures.front c.requires.frames.rings_are.few c.requires.frames.rings_are.cpus in
    c.drops_of.ensures
    ∙ drops_end c.args.rings.now c.args.stalls.now c.args.pace.now c.args.end c.walk-at.result c.ticks_by-last.result
    c.args.arrivals.now c.args.routes.now _ (record { courses = c.walk-at.new.courses; presents = c.walk-at.new.presents })
    c.rest.new.courses begun (c.walk-at.ensures.goes c.args.end) c.ticks_by-last.ensures
    (c.rest.ensures.goes c.args.rings.now.room)
