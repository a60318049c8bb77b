use Rattle.std.proofs.Common.{◌≡◌, ℕ, ◌+◌, ◌<◌, ◌^◌, drop}
use Rattle.std.specs.Prelude.{All}
use Rattle.ring_sizes.specs.Courses.{IsSmall}
use Rattle.ring_sizes.specs.Places.{IsQuiet}
use Rattle.ring_sizes.specs.Schedules.{schedule_from, schedule_to, ticks_by}
use Rattle.group_sizes.specs.Groups.{Group, IsGroup, all_routed}
use Rattle.group_sizes.proofs.group_walks.walk.Given as goal

abbrev pub invariant-loop-index : goal.invariant-loop-index
invariant-loop-index l =
    let first : Group = record { courses = l.initial.courses; presents = l.initial.presents } in
    let here : Group = record { courses = l.courses; presents = l.presents } in
    record {
      early : l.at < 2 ^ 53;
      quiet : IsQuiet l.pace l.at l.until;
      group : IsGroup l.rings here;
      small : All (IsSmall (l.index + 1 + ticks_by l.pace l.at)) l.courses;
      goes : (end : ℕ)
          → all_routed l.rings l.pace.tov (schedule_to l.stalls l.pace l.arrivals end) l.routes first
          ≡ all_routed l.rings l.pace.tov (schedule_from l.stalls l.pace end l.at (drop l.index l.arrivals))
          (drop l.index l.routes) here;
    }
