use Rattle.std.proofs.Common.{◌≡◌, ◌+◌, ◌<◌, ◌^◌, drop}
use Rattle.ring_sizes.specs.Courses.{IsSmall, all_went_on, first_course}
use Rattle.ring_sizes.specs.Places.{IsQuiet}
use Rattle.ring_sizes.specs.Schedules.{schedule_from, schedule_to, ticks_by}
use Rattle.ring_sizes.proofs.timed_courses.losses_at.Given as goal

abbrev pub invariant-loop-arrival : goal.invariant-loop-arrival
invariant-loop-arrival l = record {
  early : l.at < 2 ^ 53;
  quiet : IsQuiet l.pace l.at l.until;
  small : IsSmall (l.arrival-index + 1 + ticks_by l.pace l.at) l.course;
  goes : all_went_on l.room l.blocks l.pace.tov (schedule_from l.stalls l.pace l.end l.at (drop l.arrival-index l.arrivals))
      l.course
      ≡ all_went_on l.room l.blocks l.pace.tov (schedule_to l.stalls l.pace l.arrivals l.end) (first_course l.pace.tov);
}
