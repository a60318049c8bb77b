use Rattle.std.proofs.Common.{ℕ, ◌≡◌, ◌+◌, ◌-◌, ◌<◌, ◌≤◌, ◌^◌, max, get_or, subst, sym, ap, ◌∙◌, arith, rules}
use Rattle.std.proofs.lemmas.List.Elements.{All-get_or}
use Rattle.std.proofs.lemmas.Grind.{common_steps}
use Rattle.ring_sizes.specs.Courses.{IsSmall, all_went_on, course_stats, went_on}
use Rattle.ring_sizes.specs.Schedules.{beats, beats_between, ticks_by}
use Rattle.ring_sizes.specs.declared.courses.Course.{Course}
use Rattle.ring_sizes.specs.declared.events.Event.TheVariants.{Packet}
use Rattle.ring_sizes.specs.declared.paces.Arrival.{Arrival}
use Rattle.ring_sizes.proofs.Counts.{ticks_few, ticks_rise}
use Rattle.ring_sizes.proofs.CourseGaps.{frame_goes, last_goes, smaller}
use Rattle.ring_sizes.proofs.Frames.{max_below}
use Rattle.ring_sizes.proofs.Runs.{totals_at}
use Rattle.ring_sizes.proofs.Small.{stays_small}
use Rattle.ring_sizes.proofs.timed_courses.losses_at.Goals as goal

max_first : (since at next : ℕ) → next ≡ max since at → since ≤ next
max_first since at next e = grind (arith, common_steps, e)

pub take-requires : goal.take-requires
take-requires c =
    let none : Arrival = record { at = 0; need = 0 } in
    let arrival : Arrival = get_or c.args.arrivals.now c.loop-arrival.arrival-index none in
    let max_is : c.max-next.result ≡ max c.loop-arrival.at arrival.at = search rules in
    let soon : arrival.at < 2 ^ 53 =
    All-get_or (λ (arrival : Arrival). arrival.at < 2 ^ 53) c.args.arrivals.now c.loop-arrival.arrival-index none
    c.loop-arrival-test.true c.requires.early in
    let early = max_below c.loop-arrival.at arrival.at (2 ^ 53) c.loop-arrival.invariant.early soon in
    let few = ticks_few c.args.pace.now c.max-next.result c.requires.sound (omega (arith, max_is, early)) in
    smaller (c.loop-arrival.arrival-index + 1 + ticks_by c.args.pace.now c.max-next.result) (2 ^ 63)
    c.rest_between-until.new.self
    (omega (arith, few, c.loop-arrival-test.true, c.requires.few))
    (c.rest_between-until.ensures.small (c.loop-arrival.arrival-index + 1) c.loop-arrival.invariant.small)

pub loop-arrival-preserved : goal.loop-arrival-preserved
loop-arrival-preserved c =
    let none : Arrival = record { at = 0; need = 0 } in
    let index : ℕ = c.loop-arrival.arrival-index in
    let arrival : Arrival = get_or c.args.arrivals.now index none in
    let max_is : c.max-next.result ≡ max c.loop-arrival.at arrival.at = search rules in
    let soon : arrival.at < 2 ^ 53 =
    All-get_or (λ (arrival : Arrival). arrival.at < 2 ^ 53) c.args.arrivals.now index none c.loop-arrival-test.true
    c.requires.early in
    let early = max_below c.loop-arrival.at arrival.at (2 ^ 53) c.loop-arrival.invariant.early soon in
    let next : c.take.new.self
    ≡ went_on c.args.room c.args.blocks c.args.pace.now.tov (Packet arrival.need) c.rest_between-until.new.self =
    c.take.ensures.goes
    ∙ ap (λ (tov : ℕ). went_on c.args.room c.args.blocks tov (Packet arrival.need) c.rest_between-until.new.self)
    c.from-tov.ensures in
    let bound : ℕ = index + 1 + ticks_by c.args.pace.now c.max-next.result in
    record {
      early = omega (arith, max_is, early);
      quiet = c.rest_between-until.ensures.quiet;
      small =
          subst (IsSmall (index + 1 + 1 + ticks_by c.args.pace.now c.max-next.result)) (sym next)
          (smaller (bound + 1) (index + 1 + 1 + ticks_by c.args.pace.now c.max-next.result) _ (omega arith)
          (stays_small bound c.args.room c.args.blocks c.args.pace.now.tov (Packet arrival.need) c.rest_between-until.new.self
          (c.rest_between-until.ensures.small (index + 1) c.loop-arrival.invariant.small)
          (subst (λ (course : Course). course.used < 2 ^ 32) next c.take.ensures.used)));
      goes =
          frame_goes c.args.room c.args.blocks c.args.stalls.now c.args.pace.now c.args.end c.loop-arrival.at c.max-next.result
          c.args.arrivals.now index none c.loop-arrival.course c.rest_between-until.new.self c.take.new.self _
          c.loop-arrival-test.true max_is (c.rest_between-until.ensures.goes c.args.room) next c.loop-arrival.invariant.goes;
    }

pub stats-requires : goal.stats-requires
stats-requires c =
    let few = ticks_few c.args.pace.now c.args.end c.requires.sound (omega (arith, c.requires.soon)) in
    let before = ticks_few c.args.pace.now c.loop-arrival.at c.requires.sound (omega (arith, c.loop-arrival.invariant.early)) in
    let small = c.rest.ensures.small (c.loop-arrival.arrival-index + 1) (2 ^ 54) (omega (arith, before))
    (omega (arith, few, c.ticks_by.ensures)) c.loop-arrival.invariant.small in
    omega (arith, small.packets, c.loop-arrival.auto.arrival-index-end, c.requires.few)

pub returns-clause-stats : goal.returns-clause-stats
returns-clause-stats c =
    c.stats.ensures
    ∙ ap course_stats (last_goes c.args.room c.args.blocks c.args.stalls.now c.args.pace.now c.args.end c.loop-arrival.at
    c.args.arrivals.now c.loop-arrival.arrival-index c.loop-arrival.course c.rest.new.self _ c.loop-arrival-test.false
    (c.rest.ensures.goes c.args.room
    ∙ ap (λ (last : ℕ). all_went_on c.args.room c.args.blocks c.args.pace.now.tov
    (beats c.args.stalls.now c.args.pace.now (last - ticks_by c.args.pace.now c.loop-arrival.at)
    (ticks_by c.args.pace.now c.loop-arrival.at) c.loop-arrival.at (c.args.end + 1)) c.loop-arrival.course)
    c.ticks_by.ensures) c.loop-arrival.invariant.goes)

pub returns-clause-totals : goal.returns-clause-totals
returns-clause-totals c = λ happenings same plain.
    c.stats.ensures
    ∙ totals_at c.args.room c.args.blocks c.args.pace.now.tov happenings _ c.rest.new.self same plain
    (last_goes c.args.room c.args.blocks c.args.stalls.now c.args.pace.now c.args.end c.loop-arrival.at
    c.args.arrivals.now c.loop-arrival.arrival-index c.loop-arrival.course c.rest.new.self _ c.loop-arrival-test.false
    (c.rest.ensures.goes c.args.room
    ∙ ap (λ (last : ℕ). all_went_on c.args.room c.args.blocks c.args.pace.now.tov
    (beats c.args.stalls.now c.args.pace.now (last - ticks_by c.args.pace.now c.loop-arrival.at)
    (ticks_by c.args.pace.now c.loop-arrival.at) c.loop-arrival.at (c.args.end + 1)) c.loop-arrival.course)
    c.ticks_by.ensures) c.loop-arrival.invariant.goes)
