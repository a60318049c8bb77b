use Rattle.std.proofs.Common.{◌≡◌, ℕ, ◌+◌, ◌*◌, ◌<◌, ◌≤◌, ◌^◌, drop}
use Rattle.ring_sizes.specs.Passes.{IsWithin, first_pass, passed_all}
use Rattle.ring_sizes.specs.Places.{place_at}
use Rattle.ring_sizes.specs.Rests.{IsTicked}
use Rattle.ring_sizes.specs.Schedules.{schedule_from, schedule_to, ticks_by}
use Rattle.ring_sizes.proofs.timed.timed_pass.Given as goal

abbrev pub invariant-loop-arrival : goal.invariant-loop-arrival
invariant-loop-arrival l = record {
  place : l.place ≡ place_at l.pace l.at;
  still : (at : ℕ) → at < l.until → (at < l.place.tick_at) × (at ≤ l.place.step_at);
  early : l.at < 2 ^ 53;
  within : IsWithin (3 * l.arrival-index + 1) l.pass;
  ticked : IsTicked l.pace (ticks_by l.pace l.at) l.pass;
  goes : passed_all l.room l.pace.tov (schedule_from l.stalls l.pace l.end l.at (drop l.arrival-index l.arrivals))
      l.pass
      ≡ passed_all l.room l.pace.tov (schedule_to l.stalls l.pace l.arrivals l.end) (first_pass l.pace.tov);
}
