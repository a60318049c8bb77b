use Rattle.std.proofs.Common.{◌≡◌, ℕ, ◌+◌, ◌-◌, ◌≤◌, max}
use Rattle.poll_sizes.specs.Beats.{ticks_on}
use Rattle.poll_sizes.specs.Polls.{all_beaten, course_done}
use Rattle.ring_sizes.specs.Courses.{IsSmall, went_on}
use Rattle.poll_sizes.proofs.polled_courses.Polled+Course.rest.Given as goal

abbrev pub invariant-loop-done : goal.invariant-loop-done
invariant-loop-done l = record {
  begun : l.ticks ≤ l.done;
  most : l.done ≤ max l.last l.ticks;
  small : (bound : ℕ) → IsSmall (bound + l.ticks) l.fn.self.ring → IsSmall (bound + l.done) l.self.ring;
  goes : all_beaten (went_on l.room l.blocks l.pace.tov) course_done l.stalls l.pace.delay
      (ticks_on l.pace (l.last - l.done) l.done) l.self
      ≡ all_beaten (went_on l.room l.blocks l.pace.tov) course_done l.stalls l.pace.delay
      (ticks_on l.pace (l.last - l.ticks) l.ticks) l.fn.self;
}

abbrev pub decreases-loop-done : goal.decreases-loop-done
decreases-loop-done l = l.last - l.done
