-- What comes between two frames, for all rings of a group, and the next frame.
use Rattle.std.proofs.Common.{◌≡◌, ℕ, zero, suc, ◌+◌, ◌-◌, ◌*◌, ◌<◌, ◌≤◌, Bool, true, false, List, [], ◌∷◌, ◌++◌, length}
use Rattle.std.proofs.Common.{drop, get_or, drop-cons, add-one, max, map, replicate, take, sym, ap, ◌∙◌, arith}
use Rattle.std.specs.Prelude.{sum_by}
use Rattle.std.proofs.lemmas.List.{map-id, take-replicate}
use Rattle.std.proofs.lemmas.Simd.{map-map}
use Rattle.group_sizes.specs.Groups.{Group, all_did, all_routed, drops_in, first_group, routed}
use Rattle.group_sizes.specs.Walks.{group_drops_of}
use Rattle.group_sizes.specs.declared.group_rings.GroupRings.{GroupRings}
use Rattle.group_sizes.specs.declared.group_rings.Route.{Route}
use Rattle.ring_sizes.specs.Courses.{all_went_on, first_course, went_on}
use Rattle.ring_sizes.specs.Schedules.{awake, beats, beats_between, beats_to, schedule_from, schedule_to, step_event}
use Rattle.ring_sizes.specs.Schedules.{steps_before}
use Rattle.ring_sizes.specs.Schedules.{steps_from, tick_moment, ticks_by}
use Rattle.ring_sizes.specs.declared.courses.Course.{Course}
use Rattle.ring_sizes.specs.declared.events.Event.{Event}
use Rattle.ring_sizes.specs.declared.events.Event.TheVariants.{Packet, Tick, Read, ReadAll}
use Rattle.ring_sizes.specs.declared.paces.Arrival.{Arrival}
use Rattle.ring_sizes.specs.declared.paces.StallTime.{StallTime}
use Rattle.ring_sizes.specs.declared.paces.Timing.{Timing}

-- no packet is among them
abbrev pub AreBeats : List Event → Type 0
AreBeats [] = Unit {0}
AreBeats (Packet need ∷ events) = ⊥
AreBeats (Tick ms ∷ events) = AreBeats events
AreBeats (Read ∷ events) = AreBeats events
AreBeats (ReadAll ∷ events) = AreBeats events

append_beats : (one other : List Event) → AreBeats one → AreBeats other → AreBeats (one ++ other)
append_beats [] other h k = k
append_beats (Packet need ∷ one) other h k = absurd h
append_beats (Tick ms ∷ one) other h k = append_beats one other h k
append_beats (Read ∷ one) other h k = append_beats one other h k
append_beats (ReadAll ∷ one) other h k = append_beats one other h k

steps_are : (takes_all : Bool) (count : ℕ) → AreBeats (replicate count (step_event takes_all))
steps_are takes_all zero = tt
steps_are true (suc count) = steps_are true count
steps_are false (suc count) = steps_are false count

pub beats_are : (stalls : List StallTime) (pace : Timing) (more ticks since at : ℕ)
    → AreBeats (beats stalls pace more ticks since at)
beats_are stalls pace zero ticks since at =
    steps_are pace.takes_all
    (awake stalls pace (steps_before pace since) (steps_before pace at - steps_before pace since))
beats_are stalls pace (suc more) ticks since at =
    let next = tick_moment pace (ticks + 1) in
    append_beats (steps_from stalls pace since next)
    (Tick ((ticks + 1) * pace.tov) ∷ beats stalls pace more (ticks + 1) next at)
    (steps_are pace.takes_all
    (awake stalls pace (steps_before pace since) (steps_before pace next - steps_before pace since)))
    (beats_are stalls pace more (ticks + 1) next at)

module _ (rings : GroupRings) (tov : ℕ) where
  abbrev pub run : List Event → List Route → Group → Group
  run events routes group = all_routed rings tov events routes group

  -- each ring goes on for itself
  abbrev pub rested : List Event → Group → Group
  rested events group = record group { courses = map (all_went_on rings.room rings.blocks tov events) group.courses }

  rested_more : (event : Event) (events : List Event) (group : Group)
      → rested events (all_did rings tov event group) ≡ rested (event ∷ events) group
  rested_more event events group =
      ap (λ (courses : List Course). record group { courses = courses })
      (map-map (all_went_on rings.room rings.blocks tov events) (went_on rings.room rings.blocks tov event) group.courses)

  pub beats_go : (events more : List Event) (routes : List Route) (group : Group) → AreBeats events
      → run (events ++ more) routes group ≡ run more routes (rested events group)
  beats_go [] more routes group h =
      ap (λ (courses : List Course). run more routes (record group { courses = courses })) (sym (map-id group.courses))
  beats_go (Packet need ∷ events) more routes group h = absurd h
  beats_go (Tick ms ∷ events) more routes group h =
      beats_go events more routes (all_did rings tov (Tick ms) group) h
      ∙ ap (run more routes) (rested_more (Tick ms) events group)
  beats_go (Read ∷ events) more routes group h =
      beats_go events more routes (all_did rings tov Read group) h ∙ ap (run more routes) (rested_more Read events group)
  beats_go (ReadAll ∷ events) more routes group h =
      beats_go events more routes (all_did rings tov ReadAll group) h ∙ ap (run more routes) (rested_more ReadAll events group)

  pub beats_end : (events : List Event) (routes : List Route) (group : Group) → AreBeats events
      → run events routes group ≡ rested events group
  beats_end [] routes group h = ap (λ (courses : List Course). record group { courses = courses }) (sym (map-id group.courses))
  beats_end (Packet need ∷ events) routes group h = absurd h
  beats_end (Tick ms ∷ events) routes group h =
      beats_end events routes (all_did rings tov (Tick ms) group) h ∙ rested_more (Tick ms) events group
  beats_end (Read ∷ events) routes group h =
      beats_end events routes (all_did rings tov Read group) h ∙ rested_more Read events group
  beats_end (ReadAll ∷ events) routes group h =
      beats_end events routes (all_did rings tov ReadAll group) h ∙ rested_more ReadAll events group

module _ (rings : GroupRings) (stalls : List StallTime) (pace : Timing) where
  abbrev go : List Event → List Route → Group → Group
  go events routes group = all_routed rings pace.tov events routes group

  abbrev rest : List Event → Group → Group
  rest events group = rested rings pace.tov events group

  -- the next frame
  pub frame_goes : (end since at : ℕ) (arrivals : List Arrival) (routes : List Route) (index : ℕ) (default : Arrival)
      (route : Route) (group before later total : Group)
      → index < length arrivals → length routes ≡ length arrivals → at ≡ max since (get_or arrivals index default).at
      → before ≡ rest (beats_between stalls pace since at) group
      → later ≡ routed rings pace.tov (get_or arrivals index default).need (get_or routes index route) before
      → total ≡ go (schedule_from stalls pace end since (drop index arrivals)) (drop index routes) group
      → total ≡ go (schedule_from stalls pace end at (drop (index + 1) arrivals)) (drop (index + 1) routes) later
  frame_goes end since at arrivals routes index default route group before later total inside same is was next whole =
      let arrival = get_or arrivals index default in
      let left = drop (index + 1) arrivals in
      let routes_left = drop (index + 1) routes in
      let head : drop index arrivals ≡ arrival ∷ left = rw add-one (drop-cons arrivals index default inside) in
      let first : drop index routes ≡ get_or routes index route ∷ routes_left =
      rw add-one (drop-cons routes index route (omega (arith, inside, same))) in
      whole
      ∙ ap (λ (all : List Arrival). go (schedule_from stalls pace end since all) (drop index routes) group) head
      ∙ ap (λ (n : ℕ). go (beats_between stalls pace since n ++ Packet arrival.need ∷ schedule_from stalls pace end n left)
      (drop index routes) group) (sym is)
      ∙ beats_go rings pace.tov (beats_between stalls pace since at)
      (Packet arrival.need ∷ schedule_from stalls pace end at left)
      (drop index routes) group (beats_are stalls pace (ticks_by pace at - ticks_by pace since) (ticks_by pace since) since at)
      ∙ ap (go (Packet arrival.need ∷ schedule_from stalls pace end at left) (drop index routes)) (sym was)
      ∙ ap (λ (all : List Route). go (Packet arrival.need ∷ schedule_from stalls pace end at left) all before) first
      ∙ ap (go (schedule_from stalls pace end at left) routes_left) (sym next)

  -- the packets that are dropped by the end
  pub drops_end : (end at last : ℕ) (arrivals : List Arrival) (routes : List Route) (first group : Group)
      (courses : List Course)
      → first ≡ first_group rings pace.tov
      → go (schedule_to stalls pace arrivals end) routes first ≡ go (beats_to stalls pace at end) [] group
      → last ≡ ticks_by pace end
      → courses ≡ map (all_went_on rings.room rings.blocks pace.tov
      (beats stalls pace (last - ticks_by pace at) (ticks_by pace at) at (end + 1))) group.courses
      → sum_by (λ (course : Course). course.dropped) courses ≡ group_drops_of rings routes stalls pace arrivals end
  drops_end end at last arrivals routes first group courses begun goes ticks is =
      ap (sum_by (λ (course : Course). course.dropped))
      (is ∙ ap (λ (last : ℕ). map (all_went_on rings.room rings.blocks pace.tov
      (beats stalls pace (last - ticks_by pace at) (ticks_by pace at) at (end + 1))) group.courses) ticks)
      ∙ ap drops_in (sym (beats_end rings pace.tov (beats_to stalls pace at end) [] group
      (beats_are stalls pace (ticks_by pace end - ticks_by pace at) (ticks_by pace at) at (end + 1))))
      ∙ ap drops_in (sym goes)
      ∙ ap (λ (first : Group). drops_in (go (schedule_to stalls pace arrivals end) routes first)) begun

-- the first places of lists of eight
pub first_is : (rings : GroupRings) (tov : ℕ) (courses : List Course) (presents : List ℕ) (one : Course)
    → one ≡ first_course tov
    → courses ≡ take rings.members (replicate 8 one) → presents ≡ take rings.cpus (replicate 8 0) → rings.members ≤ 8
    → rings.cpus ≤ 8
    → let group : Group = record { courses = courses; presents = presents } in
    group ≡ first_group rings tov
first_is rings tov courses presents one e f g few cpus =
    ap (λ (courses : List Course). record { courses = courses; presents = presents })
    (f ∙ take-replicate rings.members 8 one few ∙ ap (replicate rings.members) e)
    ∙ ap (λ (presents : List ℕ). record { courses = replicate rings.members (first_course tov); presents = presents })
    (g ∙ take-replicate rings.cpus 8 0 cpus)
