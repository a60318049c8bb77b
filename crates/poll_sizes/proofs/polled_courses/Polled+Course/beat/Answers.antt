use Rattle.std.proofs.Common.{◌+◌, ◌<◌, ◌^◌, subst, sym}
use Rattle.ring_sizes.specs.Courses.{IsSmall}
use Rattle.ring_sizes.specs.declared.courses.Course.{Course}
use Rattle.ring_sizes.proofs.Small.{stays_small}
use Rattle.poll_sizes.proofs.polled_courses.Polled+Course.beat.Goals as goal

pub returns-clause-small : goal.returns-clause-small
returns-clause-small c = λ bound h.
    subst (IsSmall (bound + 1)) (sym c.take.ensures.goes)
    (stays_small bound c.args.room c.args.blocks c.from.result c.args.event c.read_before.new.self.ring
    (c.read_before.ensures.small bound h)
    (subst (λ (course : Course). course.used < 2 ^ 32) c.take.ensures.goes c.take.ensures.used))
