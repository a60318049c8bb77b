use Rattle.std.proofs.Common.{◌-◌, ◌<◌, ◌≤◌, ◌^◌, ◌∙◌, length, arith}
use Rattle.ring_sizes.specs.Courses.{IsSmall, all_went_on}
use Rattle.ring_sizes.specs.Schedules.{beats, ticks_by}
use Rattle.ring_sizes.specs.declared.courses.Course.{Course}
use Rattle.group_sizes.proofs.Mapped.{holds_at, mapped_all, next_of}
use Rattle.group_sizes.proofs.member_rests.rest.Goals as goal

pub rest-requires-clause-small : goal.rest-requires-clause-small
rest-requires-clause-small c =
    let goes : Course → Course = all_went_on 0 c.args.blocks c.args.pace.now.tov
    (beats c.args.stalls.now c.args.pace.now (c.args.last - ticks_by c.args.pace.now c.args.since)
    (ticks_by c.args.pace.now c.args.since) c.args.since c.args.at) in
    let inside : c.loop-course.course-index < length c.args.courses.now =
    omega (arith, c.loop-course-test.true, c.loop-course.auto.courses) in
    holds_at goes (IsSmall (2 ^ 62)) c.loop-course.course-index c.args.courses.now c.loop-course.courses _
    (c.loop-course.invariant 0) inside c.requires.small

pub loop-course-preserved : goal.loop-course-preserved
loop-course-preserved c = λ room.
    let goes : Course → Course = all_went_on room c.args.blocks c.args.pace.now.tov
    (beats c.args.stalls.now c.args.pace.now (c.args.last - ticks_by c.args.pace.now c.args.since)
    (ticks_by c.args.pace.now c.args.since) c.args.since c.args.at) in
    let inside : c.loop-course.course-index < length c.args.courses.now =
    omega (arith, c.loop-course-test.true, c.loop-course.auto.courses) in
    next_of goes c.loop-course.course-index c.args.courses.now c.loop-course.courses _ c.rest.new.self
    (c.loop-course.invariant room) inside (c.rest.ensures.goes room)

pub returns : goal.returns
returns c = record {
  goes = λ room.
      let goes : Course → Course = all_went_on room c.args.blocks c.args.pace.now.tov
      (beats c.args.stalls.now c.args.pace.now (c.args.last - ticks_by c.args.pace.now c.args.since)
      (ticks_by c.args.pace.now c.args.since) c.args.since c.args.at) in
      let behind : length c.args.courses.now ≤ c.loop-course.course-index =
      omega (arith, c.loop-course-test.false, c.loop-course.auto.courses) in
      c.loop-course.invariant room ∙ mapped_all goes c.loop-course.course-index c.args.courses.now behind;
}
