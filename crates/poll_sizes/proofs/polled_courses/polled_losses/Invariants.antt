use Rattle.std.proofs.Common.{◌≡◌, ◌+◌, ◌<◌, ◌^◌, drop}
use Rattle.poll_sizes.specs.Beats.{beats_from, timer_of}
use Rattle.poll_sizes.specs.Polls.{all_beaten, course_done, first_polled_course}
use Rattle.ring_sizes.specs.Courses.{IsSmall, went_on}
use Rattle.ring_sizes.specs.Schedules.{ticks_by}
use Rattle.poll_sizes.proofs.polled_courses.polled_losses.Given as goal

abbrev pub invariant-loop-arrival : goal.invariant-loop-arrival
invariant-loop-arrival l = record {
  early : l.at < 2 ^ 53;
  ticks : l.ticks ≡ ticks_by (timer_of l.pace) l.at;
  small : IsSmall (l.arrival-index + 1 + l.ticks) l.polled.ring;
  goes : all_beaten (went_on l.room l.blocks l.pace.tov) course_done l.stalls l.pace.delay
      (beats_from l.pace l.end l.at (drop l.arrival-index l.arrivals)) l.polled
      ≡ all_beaten (went_on l.room l.blocks l.pace.tov) course_done l.stalls l.pace.delay
      (beats_from l.pace l.end 0 l.arrivals) (first_polled_course l.pace.tov);
}
