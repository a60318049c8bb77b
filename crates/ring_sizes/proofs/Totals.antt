-- What some rings drop together.
use Rattle.std.proofs.Common.{◌≡◌, ℕ, zero, suc, ◌+◌, ◌-◌, ◌*◌, ◌<◌, ◌≤◌, List, [], ◌∷◌, ◌++◌, Bool, true, false, cond, max}
use Rattle.std.proofs.Common.{map, replicate, length, get_or, drop, refl, sym, ap, ◌∙◌, arith}
use Rattle.std.specs.Prelude.{nat_lt}
use Rattle.std.specs.List.{AllByRecursion, sum_by}
use Rattle.std.proofs.lemmas.List.{at_drop_all}
use Rattle.std.proofs.lemmas.List.Sums.{sum_by-cons, sum_by-drop_more}
use Rattle.ring_events.specs.Happenings.{IsPlain, all_happened}
use Rattle.ring_events.specs.declared.events.Happening.{Happening}
use Rattle.ring_model.specs.Fates.{totals_of}
use Rattle.ring_model.specs.Ring.{Size}
use Rattle.ring_model.specs.Rings.{fresh}
use Rattle.ring_model.specs.declared.notes.Stats.{Stats}
use Rattle.ring_sizes.specs.Courses.{all_went_on, at_due, first_course, has_space, is_free, opened, went_on}
use Rattle.ring_sizes.specs.EventLists.{events_of}
use Rattle.ring_sizes.specs.Orders.{at_phase}
use Rattle.ring_sizes.specs.Phases.{drops_of, drops_of_all}
use Rattle.ring_sizes.specs.Schedules.{awake, beats, beats_between, schedule_from, schedule_to, step_event, steps_before}
use Rattle.ring_sizes.specs.Schedules.{steps_from, tick_moment, ticks_by}
use Rattle.ring_sizes.specs.declared.courses.Course.{Course}
use Rattle.ring_sizes.specs.declared.courses.CourseBlock.{CourseBlock}
use Rattle.ring_sizes.specs.declared.courses.CourseBlock.TheVariants.{Frozen, Empty, Filled}
use Rattle.ring_sizes.specs.declared.events.Event.{Event}
use Rattle.ring_sizes.specs.declared.events.Event.TheVariants.{Packet, Tick, Read, ReadAll}
use Rattle.ring_sizes.specs.declared.paces.Arrival.{Arrival}
use Rattle.ring_sizes.specs.declared.paces.StallTime.{StallTime}
use Rattle.ring_sizes.specs.declared.paces.Timing.{Timing}
use Rattle.ring_sizes.proofs.Runs.{totals_at}
use Rattle.ring_sizes.proofs.Stretches.{drops_same}

-- ---- a ring drops no more packets than come

abbrev packets : List Event → ℕ
packets [] = 0
packets (Packet need ∷ events) = packets events + 1
packets (Tick ms ∷ events) = packets events
packets (Read ∷ events) = packets events
packets (ReadAll ∷ events) = packets events

fed_drops : (tov need : ℕ) (course : Course) (space free : Bool) →
    (cond space (record course { used = course.used + need; block = Filled; kept = course.kept + 1 })
    (cond free (record course {
      done = course.done + opened course.block;
      used = need;
      block = Filled;
      deadline = course.clock + tov;
      kept = course.kept + 1;
    }) (record course {
      done = course.done + opened course.block;
      used = 0;
      block = Frozen;
      dropped = course.dropped + 1;
      freezes = course.freezes + opened course.block;
    }))).dropped ≤ course.dropped + 1
fed_drops tov need course true free = omega arith
fed_drops tov need course false true = omega arith
fed_drops tov need course false false = omega arith

due_drops : (course : Course) (free : Bool) →
    (cond free (record course { done = course.done + opened course.block; used = 0; block = Empty })
    (record course {
      done = course.done + opened course.block;
      used = 0;
      block = Frozen;
      freezes = course.freezes + opened course.block;
    })).dropped ≡ course.dropped
due_drops course true = refl
due_drops course false = refl

at_due_drops : (blocks : ℕ) (block : CourseBlock) (course : Course) → (at_due blocks block course).dropped ≡ course.dropped
at_due_drops blocks Empty course = refl
at_due_drops blocks Frozen course = due_drops course (is_free blocks course)
at_due_drops blocks Filled course = due_drops course (is_free blocks course)

tick_drops : (blocks tov ms : ℕ) (course : Course) (early : Bool) →
    (cond early (record course { clock = ms })
    (record (at_due blocks course.block course) { clock = ms; deadline = ms + tov })).dropped ≡ course.dropped
tick_drops blocks tov ms course true = refl
tick_drops blocks tov ms course false = at_due_drops blocks course.block course

read_drops : (course : Course) (some : Bool) →
    (cond some (record course { released = course.released + 1 }) course).dropped ≡ course.dropped
read_drops course true = refl
read_drops course false = refl

all_drops : (room blocks tov : ℕ) (events : List Event) (course : Course)
    → (all_went_on room blocks tov events course).dropped ≤ course.dropped + packets events
all_drops room blocks tov [] course = omega arith
all_drops room blocks tov (Packet need ∷ events) course =
    let rest = all_drops room blocks tov events (went_on room blocks tov (Packet need) course) in
    let one = fed_drops tov need course (has_space room need course.used course.block) (is_free blocks course) in
    omega (arith, rest, one)
all_drops room blocks tov (Tick ms ∷ events) course =
    let rest = all_drops room blocks tov events (went_on room blocks tov (Tick ms) course) in
    let same = tick_drops blocks tov ms course (nat_lt ms course.deadline) in
    omega (arith, rest, same)
all_drops room blocks tov (Read ∷ events) course =
    let rest = all_drops room blocks tov events (went_on room blocks tov Read course) in
    let same = read_drops course (nat_lt course.released course.done) in
    omega (arith, rest, same)
all_drops room blocks tov (ReadAll ∷ events) course =
    all_drops room blocks tov events (went_on room blocks tov ReadAll course)

packets_both : (all more : List Event) → packets (all ++ more) ≡ packets all + packets more
packets_both [] more = omega arith
packets_both (Packet need ∷ all) more = let rest = packets_both all more in omega (arith, rest)
packets_both (Tick ms ∷ all) more = packets_both all more
packets_both (Read ∷ all) more = packets_both all more
packets_both (ReadAll ∷ all) more = packets_both all more

no_packets : (count : ℕ) (takes_all : Bool) → packets (replicate count (step_event takes_all)) ≡ 0
no_packets zero takes_all = refl
no_packets (suc count) true = no_packets count true
no_packets (suc count) false = no_packets count false

module _ (stalls : List StallTime) (pace : Timing) where
  no_packets_read : (since at : ℕ) → packets (steps_from stalls pace since at) ≡ 0
  no_packets_read since at =
      no_packets (awake stalls pace (steps_before pace since) (steps_before pace at - steps_before pace since)) pace.takes_all

  no_beats : (more ticks since at : ℕ) → packets (beats stalls pace more ticks since at) ≡ 0
  no_beats zero ticks since at = no_packets_read since at
  no_beats (suc more) ticks since at =
      let next = tick_moment pace (ticks + 1) in
      let both = packets_both (steps_from stalls pace since next)
      (Tick ((ticks + 1) * pace.tov) ∷ beats stalls pace more (ticks + 1) next at) in
      let read = no_packets_read since next in
      let rest = no_beats more (ticks + 1) next at in
      omega (arith, both, read, rest)

  schedule_packets : (end since : ℕ) (arrivals : List Arrival)
      → packets (schedule_from stalls pace end since arrivals) ≡ length arrivals
  schedule_packets end since [] =
      no_beats (ticks_by pace end - ticks_by pace since) (ticks_by pace since) since (end + 1)
  schedule_packets end since (arrival ∷ arrivals) =
      let at = max since arrival.at in
      let both = packets_both (beats_between stalls pace since at)
      (Packet arrival.need ∷ schedule_from stalls pace end at arrivals) in
      let none = no_beats (ticks_by pace at - ticks_by pace since) (ticks_by pace since) since at in
      let rest = schedule_packets end at arrivals in
      omega (arith, both, none, rest)

pub drops_few : (room blocks : ℕ) (stalls : List StallTime) (pace : Timing) (arrivals : List Arrival) (end : ℕ)
    → drops_of room blocks stalls pace arrivals end ≤ length arrivals
drops_few room blocks stalls pace arrivals end =
    let most = all_drops room blocks pace.tov (schedule_to stalls pace arrivals end) (first_course pace.tov) in
    let all = schedule_packets stalls pace end 0 arrivals in
    omega (arith, most, all)

-- ---- the sums so far

pub summed : (f : List Arrival → ℕ) (members : List (List Arrival)) (index : ℕ) (none item : List Arrival)
    → item ≡ get_or members index none → index < length members
    → sum_by f (drop index members) ≡ f item + sum_by f (drop (index + 1) members)
summed f members index none item is less =
    sum_by-drop_more f members index none less ∙ ap (λ (n : ℕ). n + sum_by f (drop (index + 1) members)) (ap f (sym is))

pub all_summed : (f : List Arrival → ℕ) (members : List (List Arrival)) (index : ℕ) → length members ≤ index
    → sum_by f (drop index members) ≡ 0
all_summed f members index over = at_drop_all (λ (rest : List (List Arrival)). sum_by f rest) members index over

-- what the members from one on drop is the same at another phase
abbrev pub AreSame : ℕ → ℕ → List StallTime → Timing → ℕ → List (List Arrival) → ℕ → Type 0
AreSame room blocks stalls pace phase members end =
    drops_of_all room blocks stalls (at_phase pace phase) members end ≡ drops_of_all room blocks stalls pace members end

-- where it is so of those from one on, it is so of all
abbrev pub IsEnough : ℕ → ℕ → List StallTime → Timing → List (List Arrival) → ℕ → ℕ → ℕ → Type 0
IsEnough room blocks stalls pace members end index next = (phase : ℕ) → pace.phase ≤ phase → phase < next
    → AreSame room blocks stalls pace phase (drop index members) end → AreSame room blocks stalls pace phase members end

module _ (room blocks : ℕ) (stalls : List StallTime) (pace : Timing) (members : List (List Arrival)) (end index : ℕ) where
  pub one_more_same : (next new : ℕ) (none item : List Arrival) → item ≡ get_or members index none → index < length members
      → new ≤ next
      → ((stalls : List StallTime) (phase : ℕ) → pace.phase ≤ phase → phase < new
      → schedule_to stalls (at_phase pace phase) item end ≡ schedule_to stalls pace item end)
      → IsEnough room blocks stalls pace members end index next
      → IsEnough room blocks stalls pace members end (index + 1) new
  one_more_same next new none item is less up same enough = λ phase late early rest.
      let drops = λ (pace : Timing) (arrivals : List Arrival). drops_of room blocks stalls pace arrivals end in
      let one = drops_same room blocks stalls pace phase item end (same stalls phase late early) in
      enough phase late (omega (arith, early, up)) (summed (drops (at_phase pace phase)) members index none item is less
      ∙ ap (λ (n : ℕ). n + sum_by (drops (at_phase pace phase)) (drop (index + 1) members)) one
      ∙ ap (λ (n : ℕ). drops pace item + n) rest
      ∙ sym (summed (drops pace) members index none item is less))

  pub all_same : (next : ℕ) → length members ≤ index → IsEnough room blocks stalls pace members end index next
      → (phase : ℕ) → pace.phase ≤ phase → phase < next → AreSame room blocks stalls pace phase members end
  all_same next over enough = λ phase late early.
      let drops = λ (pace : Timing) (arrivals : List Arrival). drops_of room blocks stalls pace arrivals end in
      enough phase late early (all_summed (drops (at_phase pace phase)) members index over
      ∙ sym (all_summed (drops pace) members index over))

-- ---- what the rings' notes say

pub sum_map : {X Y : Type 0} (f : X → Y) (g : Y → ℕ) (xs : List X) → sum_by g (map f xs) ≡ sum_by (λ x. g (f x)) xs
sum_map f g [] = refl
sum_map f g (x ∷ xs) =
    sum_by-cons g (f x) (map f xs) ∙ ap (λ (n : ℕ). g (f x) + n) (sum_map f g xs) ∙ sym (sum_by-cons (λ x. g (f x)) x xs)

pub sum_same : {X : Type 0} (P : X → Type 0) (f g : X → ℕ) → ((x : X) → P x → f x ≡ g x) → (xs : List X) → AllByRecursion P xs
    → sum_by f xs ≡ sum_by g xs
sum_same P f g same [] all = refl
sum_same P f g same (x ∷ xs) all =
    sum_by-cons f x xs ∙ ap (λ (n : ℕ). n + sum_by f xs) (same x all.0)
    ∙ ap (λ (n : ℕ). g x + n) (sum_same P f g same xs all.1) ∙ sym (sum_by-cons g x xs)

pub totals_in_all : (room blocks : ℕ) (stalls : List StallTime) (pace : Timing) (members : List (List Arrival)) (end : ℕ)
    (all : List (List Happening))
    → map (λ happenings. events_of happenings) all ≡ map (λ arrivals. schedule_to stalls pace arrivals end) members
    → AllByRecursion (λ happenings. IsPlain happenings) all
    → let size : Size = record { room = room; blocks = blocks; tov = pace.tov } in
    sum_by (λ happenings. (totals_of size (all_happened happenings (fresh size)).notes).drops) all
    ≡ drops_of_all room blocks stalls pace members end
totals_in_all room blocks stalls pace members end all same plain =
    let size : Size = record { room = room; blocks = blocks; tov = pace.tov } in
    let counted : List Happening → ℕ =
    λ happenings. (totals_of size (all_happened happenings (fresh size)).notes).drops in
    let dropped : List Event → ℕ = λ events. (all_went_on room blocks pace.tov events (first_course pace.tov)).dropped in
    sum_same (λ happenings. IsPlain happenings) counted (λ happenings. dropped (events_of happenings))
    (λ happenings plain. sym (ap (λ (stats : Stats). stats.drops)
    (totals_at room blocks pace.tov happenings _ _ refl plain refl))) all plain
    ∙ sym (sum_map (λ happenings. events_of happenings) dropped all)
    ∙ ap (sum_by dropped) same
    ∙ sum_map (λ arrivals. schedule_to stalls pace arrivals end) dropped members
