use Rattle.std.proofs.Common.{◌≡◌, ◌+◌, drop}
use Rattle.ring_sizes.specs.Courses.{IsSmall, all_went_on, first_course}
use Rattle.ring_sizes.proofs.courses.losses.Given as goal

abbrev pub invariant-loop-event : goal.invariant-loop-event
invariant-loop-event l = record {
  small : IsSmall (l.event-index + 1) l.course;
  goes : all_went_on l.room l.blocks l.tov (drop l.event-index l.events) l.course
      ≡ all_went_on l.room l.blocks l.tov l.events (first_course l.tov);
}
