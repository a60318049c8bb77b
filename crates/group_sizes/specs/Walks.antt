-- What a group drops of frames at their moments, with a timer and readers beside them.
use Rattle.std.specs.Prelude.{◌≡◌, ℕ, ◌<◌, ◌^◌, All, List, length}
use Rattle.group_sizes.specs.Groups.{AreRings, IsRoute, all_routed, drops_in, first_group}
use Rattle.group_sizes.specs.declared.group_rings.GroupRings.{GroupRings}
use Rattle.group_sizes.specs.declared.group_rings.Route.{Route}
use Rattle.ring_sizes.specs.Schedules.{schedule_to}
use Rattle.ring_sizes.specs.declared.paces.Arrival.{Arrival}
use Rattle.ring_sizes.specs.declared.paces.StallTime.{StallTime}
use Rattle.ring_sizes.specs.declared.paces.Timing.{Timing}

-- the packets that it drops of these frames, each with its route, in a run that ends at a moment
abbrev pub group_drops_of :
    GroupRings → List Route → List StallTime → Timing → List Arrival → ℕ → ℕ
group_drops_of rings routes stalls pace arrivals end =
    drops_in (all_routed rings pace.tov (schedule_to stalls pace arrivals end) routes
    (first_group rings pace.tov))

-- the frames of a group, each with its route, which are early enough and few enough
pub record AreFrames (rings : GroupRings) (routes : List Route) (arrivals : List Arrival) (end : ℕ)
    : Type 0 where
  pub rings_are : AreRings rings
  pub each : length routes ≡ length arrivals
  pub routes_are : All (IsRoute rings) routes
  pub early : All (λ arrival. arrival.at < 2 ^ 53) arrivals
  pub soon : end < 2 ^ 53
  pub few : length arrivals < 2 ^ 60
