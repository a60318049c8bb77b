-- How far a timer and a reader have come at a frame's moment.
use Rattle.std.specs.Prelude.{ℕ, ◌+◌, ◌<◌, ◌≤◌}
use Rattle.ring_sizes.specs.Schedules.{step_moment, steps_before, tick_moment, ticks_by}
use Rattle.ring_sizes.specs.declared.paces.Timing.{Timing}
use Rattle.ring_sizes.specs.declared.timed.TimedPlace.{TimedPlace}

-- before a frame that comes before this moment neither a tick nor a step comes, if the frame before
-- it came at the other
abbrev pub IsQuiet : Timing → ℕ → ℕ → Type 0
IsQuiet pace since until = (at : ℕ) → at < until
    → (at < tick_moment pace (ticks_by pace since + 1))
    × (at ≤ step_moment pace (steps_before pace since + 1))

abbrev pub place_at : Timing → ℕ → TimedPlace
place_at pace at = record {
  ticks = ticks_by pace at;
  tick_at = tick_moment pace (ticks_by pace at + 1);
  steps = steps_before pace at;
  step_at = step_moment pace (steps_before pace at + 1);
}
