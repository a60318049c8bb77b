use Rattle.std.proofs.Common.{◌≡◌, ℕ, ◌+◌, ◌<◌, ◌≤◌, ◌^◌, List, max, get_or, ap, ◌∙◌, arith, rules}
use Rattle.std.specs.Prelude.{All}
use Rattle.std.proofs.lemmas.List.Elements.{All-get_or}
use Rattle.std.proofs.lemmas.Grind.{common_steps}
use Rattle.ring_sizes.specs.Courses.{IsSmall}
use Rattle.ring_sizes.specs.Schedules.{ticks_by}
use Rattle.ring_sizes.specs.declared.courses.Course.{Course}
use Rattle.ring_sizes.specs.declared.paces.Arrival.{Arrival}
use Rattle.ring_sizes.proofs.Counts.{ticks_few}
use Rattle.ring_sizes.proofs.Frames.{max_below}
use Rattle.group_sizes.specs.Groups.{Group, routed}
use Rattle.group_sizes.specs.declared.group_rings.Route.{Route}
use Rattle.group_sizes.proofs.GroupBeats.{frame_goes}
use Rattle.group_sizes.proofs.RestSmall.{all_smaller, gap_small}
use Rattle.group_sizes.proofs.group_walks.walk.Goals as goal

max_first : (since at next : ℕ) → next ≡ max since at → since ≤ next
max_first since at next e = grind (arith, common_steps, e)

pub give-requires-clause-small : goal.give-requires-clause-small
give-requires-clause-small c =
    let none : Arrival = record { at = 0; need = 0 } in
    let index : ℕ = c.loop-index.index in
    let since : ℕ = c.loop-index.at in
    let at : ℕ = c.max-next.result in
    let pace = c.args.pace.now in
    let arrival : Arrival = get_or c.args.arrivals.now index none in
    let max_is : at ≡ max since arrival.at = search rules in
    let soon : arrival.at < 2 ^ 53 =
    All-get_or (λ (arrival : Arrival). arrival.at < 2 ^ 53) c.args.arrivals.now index none c.loop-index-test.true
    c.requires.early in
    let early = max_below since arrival.at (2 ^ 53) c.loop-index.invariant.early soon in
    let few : ticks_by pace at < 2 ^ 54 = ticks_few pace at c.requires.sound (omega (arith, max_is, early)) in
    let small : All (IsSmall (index + 1 + ticks_by pace at)) c.rest_between-until.new.courses =
    gap_small 0 c.args.rings.now.blocks c.args.stalls.now pace c.requires.sound.tov (index + 1) since at c.loop-index.courses
    c.rest_between-until.new.courses (max_first since arrival.at at max_is) (c.rest_between-until.ensures.goes 0)
    c.loop-index.invariant.small in
    all_smaller (index + 1 + ticks_by pace at) (2 ^ 62) c.rest_between-until.new.courses
    (omega (arith, few, c.loop-index-test.true, c.requires.few)) small

pub loop-index-preserved : goal.loop-index-preserved
loop-index-preserved c =
    let none : Arrival = record { at = 0; need = 0 } in
    let no_route : Route = record { cpu = 0; home = 0 } in
    let index : ℕ = c.loop-index.index in
    let since : ℕ = c.loop-index.at in
    let at : ℕ = c.max-next.result in
    let pace = c.args.pace.now in
    let rings = c.args.rings.now in
    let arrival : Arrival = get_or c.args.arrivals.now index none in
    let max_is : at ≡ max since arrival.at = search rules in
    let soon : arrival.at < 2 ^ 53 =
    All-get_or (λ (arrival : Arrival). arrival.at < 2 ^ 53) c.args.arrivals.now index none c.loop-index-test.true
    c.requires.early in
    let early = max_below since arrival.at (2 ^ 53) c.loop-index.invariant.early soon in
    let small : All (IsSmall (index + 1 + ticks_by pace at)) c.rest_between-until.new.courses =
    gap_small 0 rings.blocks c.args.stalls.now pace c.requires.sound.tov (index + 1) since at c.loop-index.courses
    c.rest_between-until.new.courses (max_first since arrival.at at max_is) (c.rest_between-until.ensures.goes 0)
    c.loop-index.invariant.small in
    let group : Group = record { courses = c.loop-index.courses; presents = c.loop-index.presents } in
    let before : Group = record { courses = c.rest_between-until.new.courses; presents = c.loop-index.presents } in
    let later : Group = record { courses = c.give.new.courses; presents = c.give.new.presents } in
    record {
      early = omega (arith, max_is, early);
      quiet = c.rest_between-until.ensures.quiet;
      group = c.give.ensures.group;
      small = all_smaller (index + 1 + ticks_by pace at + 1) (index + 1 + 1 + ticks_by pace at) c.give.new.courses (omega arith)
          (c.give.ensures.small (index + 1 + ticks_by pace at) small);
      goes = λ end.
          frame_goes rings c.args.stalls.now pace end since at c.args.arrivals.now c.args.routes.now index none no_route
          group before later _ c.loop-index-test.true c.requires.each max_is
          (ap (λ (courses : List Course). record { courses = courses; presents = c.loop-index.presents })
          (c.rest_between-until.ensures.goes rings.room))
          (c.give.ensures.goes
          ∙ ap (λ (tov : ℕ). routed rings tov arrival.need (get_or c.args.routes.now index no_route) before) c.from-tov.ensures)
          (c.loop-index.invariant.goes end);
    }
