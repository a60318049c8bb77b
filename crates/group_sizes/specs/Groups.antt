-- A group of rings in which packets roll over: what each ring has come to, and whose turn it is.
use Rattle.std.specs.Prelude.{ℕ, zero, suc, ◌+◌, ◌%◌, ◌<◌, ◌≤◌, ◌≡◌, List, [], ◌∷◌, length, map}
use Rattle.std.specs.Prelude.{replicate, slice_index_or, slice_set, sum_by, if◌then◌else◌, All}
use Rattle.ring_sizes.specs.Courses.{fed, first_course, takes, went_on}
use Rattle.ring_sizes.specs.declared.courses.Course.{Course}
use Rattle.ring_sizes.specs.declared.events.Event.{Event}
use Rattle.ring_sizes.specs.declared.events.Event.TheVariants.{Packet, Tick, Read, ReadAll}
use Rattle.group_sizes.specs.declared.group_rings.GroupRings.{GroupRings}
use Rattle.group_sizes.specs.declared.group_rings.Route.{Route}

pub record Group : Type 0 where
  -- what the ring of each member has come to
  pub courses : List Course
  -- the present member of each CPU, which mode Rollover alone moves
  pub presents : List ℕ

abbrev pub course_at : List Course → ℕ → Course
course_at courses member = slice_index_or courses member (first_course 0)

-- before the first event, with a time-out in milliseconds
abbrev pub first_group : GroupRings → ℕ → Group
first_group rings tov = record {
  courses = replicate rings.members (first_course tov);
  presents = replicate rings.cpus 0;
}

-- the first of the next members, from one on round the group, whose ring keeps a packet of this
-- need; the home where none does
abbrev pub keeper_from : GroupRings → ℕ → List Course → ℕ → ℕ → ℕ → ℕ
keeper_from rings need courses home zero member = home
keeper_from rings need courses home (suc left) member =
    if takes rings.room rings.blocks need (course_at courses member) then member
    else keeper_from rings need courses home left ((member + 1) % rings.members)

-- of all members, from the home on: the one that keeps the packet, or the home, which drops it
abbrev pub keeper_of : GroupRings → ℕ → List Course → ℕ → ℕ
keeper_of rings need courses home = keeper_from rings need courses home rings.members home

-- the member that a frame is for first
abbrev pub home_in : GroupRings → Route → Group → ℕ
home_in rings route group =
    if rings.by_present then slice_index_or group.presents route.cpu 0 else route.home

-- a member is given a packet
abbrev pub given_at : GroupRings → ℕ → ℕ → Route → ℕ → Group → Group
given_at rings tov need route member group = record {
  courses = slice_set group.courses member
      (fed rings.room rings.blocks tov need (course_at group.courses member));
  presents = if rings.by_present then slice_set group.presents route.cpu member
      else group.presents;
}

-- a frame comes that takes so many bytes of a block
abbrev pub routed : GroupRings → ℕ → ℕ → Route → Group → Group
routed rings tov need route group =
    given_at rings tov need route
    (keeper_of rings need group.courses (home_in rings route group)) group

-- what the timer and the readers do, for each ring
abbrev pub all_did : GroupRings → ℕ → Event → Group → Group
all_did rings tov event group = record group {
  courses = map (went_on rings.room rings.blocks tov event) group.courses;
}

-- the events of the group in order; its frames, which are the packets among them, have these routes
abbrev pub all_routed : GroupRings → ℕ → List Event → List Route → Group → Group
all_routed rings tov [] routes group = group
all_routed rings tov (Packet need ∷ events) [] group = all_routed rings tov events [] group
all_routed rings tov (Packet need ∷ events) (route ∷ routes) group =
    all_routed rings tov events routes (routed rings tov need route group)
all_routed rings tov (Tick ms ∷ events) routes group =
    all_routed rings tov events routes (all_did rings tov (Tick ms) group)
all_routed rings tov (Read ∷ events) routes group =
    all_routed rings tov events routes (all_did rings tov Read group)
all_routed rings tov (ReadAll ∷ events) routes group =
    all_routed rings tov events routes (all_did rings tov ReadAll group)

-- the packets that a group drops
abbrev pub drops_in : Group → ℕ
drops_in group = sum_by (λ course. course.dropped) group.courses

-- a group as large as one may be
pub record AreRings (rings : GroupRings) : Type 0 where
  pub some : 0 < rings.members
  pub few : rings.members ≤ 8
  pub cpus : rings.cpus ≤ 8

-- the CPU and the home of a frame are there
pub record IsRoute (rings : GroupRings) (route : Route) : Type 0 where
  pub cpu : route.cpu < rings.cpus
  pub home : route.home < rings.members

-- there is a ring for each member, and a present member for each CPU
pub record IsGroup (rings : GroupRings) (group : Group) : Type 0 where
  pub members : length group.courses ≡ rings.members
  pub cpus : length group.presents ≡ rings.cpus
  pub inside : All (λ member. member < rings.members) group.presents
