use Rattle.std.proofs.Common.{◌≡◌, ℕ, ◌+◌, ◌-◌, ◌≤◌, max}
use Rattle.poll_sizes.specs.Beats.{ticks_on}
use Rattle.poll_sizes.specs.Polls.{all_beaten, pass_done}
use Rattle.ring_sizes.specs.Passes.{IsWithin, passed}
use Rattle.poll_sizes.proofs.polled_passes.Polled+Pass.rest.Given as goal

abbrev pub invariant-loop-done : goal.invariant-loop-done
invariant-loop-done l = record {
  begun : l.ticks ≤ l.done;
  most : l.done ≤ max l.last l.ticks;
  within : (bound : ℕ) → IsWithin (bound + l.ticks) l.fn.self.ring → IsWithin (bound + l.done) l.self.ring;
  goes : all_beaten (passed l.room l.pace.tov) pass_done l.stalls l.pace.delay (ticks_on l.pace (l.last - l.done) l.done) l.self
      ≡ all_beaten (passed l.room l.pace.tov) pass_done l.stalls l.pace.delay (ticks_on l.pace (l.last - l.ticks) l.ticks)
      l.fn.self;
}

abbrev pub decreases-loop-done : goal.decreases-loop-done
decreases-loop-done l = l.last - l.done
