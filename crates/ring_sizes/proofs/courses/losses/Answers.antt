use Rattle.std.proofs.Common.{◌≡◌, ◌+◌, ◌<◌, ◌^◌, drop, subst, sym, ◌∙◌}
use Rattle.ring_sizes.specs.Courses.{IsSmall, all_went_on, first_course}
use Rattle.ring_sizes.specs.declared.courses.Course.{Course}
use Rattle.ring_sizes.specs.declared.events.Event.TheVariants.{Packet}
use Rattle.ring_sizes.proofs.Small.{stays_small}
use Rattle.ring_sizes.proofs.Runs.{course_ends, course_next, totals_at}
use Rattle.ring_sizes.proofs.courses.losses.Goals as goal

pub loop-event-preserved : goal.loop-event-preserved
loop-event-preserved c =
    let next = c.take.ensures.goes in
    record {
      small =
          subst (IsSmall (c.loop-event.event-index + 1 + 1)) (sym next)
          (stays_small (c.loop-event.event-index + 1) c.args.room c.args.blocks c.args.tov _ c.loop-event.course
          c.loop-event.invariant.small (subst (λ (course : Course). course.used < 2 ^ 32) next c.take.ensures.used));
      goes =
          subst (λ (course : Course). all_went_on c.args.room c.args.blocks c.args.tov
          (drop (c.loop-event.event-index + 1) c.args.events.now) course
          ≡ all_went_on c.args.room c.args.blocks c.args.tov c.args.events.now (first_course c.args.tov)) (sym next)
          (course_next c.args.room c.args.blocks c.args.tov c.args.events.now c.loop-event.event-index (Packet 0)
          c.loop-event.course _ c.loop-event-test.true c.loop-event.invariant.goes);
    }

pub returns : goal.returns
returns c = λ happenings same plain.
    c.stats.ensures
    ∙ totals_at c.args.room c.args.blocks c.args.tov happenings c.args.events.now c.loop-event.course same plain
    (course_ends c.args.room c.args.blocks c.args.tov c.args.events.now c.loop-event.event-index c.loop-event.course _
    c.loop-event-test.false c.loop-event.invariant.goes)
