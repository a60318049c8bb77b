use Rattle.std.proofs.Common.{◌≡◌, ◌+◌, ◌<◌, ◌^◌, drop}
use Rattle.poll_sizes.specs.Beats.{beats_from, timer_of}
use Rattle.poll_sizes.specs.Polls.{all_beaten, first_polled_pass, pass_done}
use Rattle.ring_sizes.specs.Passes.{IsWithin, passed}
use Rattle.ring_sizes.specs.Schedules.{ticks_by}
use Rattle.poll_sizes.proofs.polled_passes.polled_pass.Given as goal

abbrev pub invariant-loop-arrival : goal.invariant-loop-arrival
invariant-loop-arrival l = record {
  early : l.at < 2 ^ 53;
  ticks : l.ticks ≡ ticks_by (timer_of l.pace) l.at;
  within : IsWithin (l.arrival-index + 1 + l.ticks) l.polled.ring;
  goes : all_beaten (passed l.room l.pace.tov) pass_done l.stalls l.pace.delay
      (beats_from l.pace l.end l.at (drop l.arrival-index l.arrivals)) l.polled
      ≡ all_beaten (passed l.room l.pace.tov) pass_done l.stalls l.pace.delay (beats_from l.pace l.end 0 l.arrivals)
      (first_polled_pass l.pace.tov);
}
