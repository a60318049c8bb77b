use Rattle.std.proofs.Common.{◌≡◌, ℕ, ◌+◌, ◌-◌, ◌^◌, max, get_or, ap, ◌∙◌, arith}
use Rattle.poll_sizes.specs.Beats.{timer_of}
use Rattle.poll_sizes.specs.Polls.{course_done, read_before}
use Rattle.poll_sizes.specs.declared.polls.PollTiming.{PollTiming}
use Rattle.poll_sizes.specs.declared.polls.Polled.{Polled}
use Rattle.ring_sizes.specs.Courses.{course_stats, went_on}
use Rattle.ring_sizes.specs.declared.paces.Arrival.{Arrival}
use Rattle.ring_sizes.specs.declared.courses.Course.{Course}
use Rattle.ring_sizes.proofs.Counts.{ticks_rise}
use Rattle.ring_sizes.proofs.CourseGaps.{smaller}
use Rattle.ring_sizes.proofs.Runs.{totals_at}
use Rattle.poll_sizes.proofs.OwnEvents.{course_is}
use Rattle.poll_sizes.proofs.PollFrames.{frame_goes, last_goes, ticks_are}
use Rattle.poll_sizes.proofs.PollMoments.{by_early, next_early}
use Rattle.poll_sizes.proofs.polled_courses.polled_losses.Goals as goal

pub beat-requires : goal.beat-requires
beat-requires c =
    let none : Arrival = record { at = 0; need = 0 } in
    let index : ℕ = c.loop-arrival.arrival-index in
    let is : c.max-at.result ≡ max c.loop-arrival.at (get_or c.args.arrivals.now index none).at =
    c.max-at.ensures in
    let next = next_early c.args.arrivals.now index c.loop-arrival.at c.max-at.result none c.loop-arrival-test.true
    c.requires.early c.loop-arrival.invariant.early is in
    let before = by_early c.args.pace.now c.requires.sound c.loop-arrival.at (omega (arith, c.loop-arrival.invariant.early)) in
    let here = by_early c.args.pace.now c.requires.sound c.max-at.result (omega (arith, next.1)) in
    smaller (index + 1 + 2 ^ 54) (2 ^ 62 + 2 ^ 61) c.rest.new.self.ring
    (omega (arith, c.loop-arrival-test.true, c.requires.few))
    (c.rest.ensures.small (index + 1) (2 ^ 54) (omega (arith, before.0, c.loop-arrival.invariant.ticks))
    (omega (arith, here.0, c.ticks_by-last.ensures)) c.loop-arrival.invariant.small)

pub loop-arrival-preserved : goal.loop-arrival-preserved
loop-arrival-preserved c =
    let none : Arrival = record { at = 0; need = 0 } in
    let index : ℕ = c.loop-arrival.arrival-index in
    let pace : PollTiming = c.args.pace.now in
    let since : ℕ = c.loop-arrival.at in
    let at : ℕ = c.max-at.result in
    let last : ℕ = c.ticks_by-last.result in
    let is : at ≡ max since (get_or c.args.arrivals.now index none).at =
    c.max-at.ensures in
    let next = next_early c.args.arrivals.now index since at none c.loop-arrival-test.true c.requires.early
    c.loop-arrival.invariant.early is in
    let rise = ticks_rise (timer_of pace) since at c.requires.sound.tov next.0 in
    record {
      early = next.1;
      ticks = c.ticks_by-last.ensures;
      small =
          smaller (index + 1 + last + 1) (index + 1 + 1 + last) c.beat.new.self.ring (omega arith)
          (c.beat.ensures.small (index + 1 + last)
          (c.rest.ensures.small (index + 1) last
          (omega (arith, rise, c.loop-arrival.invariant.ticks, c.ticks_by-last.ensures)) (omega arith)
          c.loop-arrival.invariant.small));
      goes =
          frame_goes (went_on c.args.room c.args.blocks pace.tov) course_done c.args.stalls.now pace c.args.end
          c.args.arrivals.now since at index none c.loop-arrival.polled c.rest.new.self c.beat.new.self _ c.loop-arrival-test.true is
          (c.rest.ensures.goes
          ∙ ticks_are (went_on c.args.room c.args.blocks pace.tov) course_done c.args.stalls.now pace since at
          c.loop-arrival.ticks last c.loop-arrival.polled c.loop-arrival.invariant.ticks c.ticks_by-last.ensures)
          c.beat.ensures.goes c.loop-arrival.invariant.goes;
    }

pub read_before-requires : goal.read_before-requires
read_before-requires c =
    let before = by_early c.args.pace.now c.requires.sound c.loop-arrival.at (omega (arith, c.loop-arrival.invariant.early)) in
    let here = by_early c.args.pace.now c.requires.sound c.args.end (omega (arith, c.requires.soon)) in
    smaller (c.loop-arrival.arrival-index + 1 + 2 ^ 54) (2 ^ 62 + 2 ^ 61) c.rest-2.new.self.ring
    (omega (arith, c.loop-arrival.auto.arrival-index-end, c.requires.few))
    (c.rest-2.ensures.small (c.loop-arrival.arrival-index + 1) (2 ^ 54)
    (omega (arith, before.0, c.loop-arrival.invariant.ticks)) (omega (arith, here.0, c.ticks_by.ensures))
    c.loop-arrival.invariant.small)

pub stats-requires : goal.stats-requires
stats-requires c =
    let before = by_early c.args.pace.now c.requires.sound c.loop-arrival.at (omega (arith, c.loop-arrival.invariant.early)) in
    let here = by_early c.args.pace.now c.requires.sound c.args.end (omega (arith, c.requires.soon)) in
    let small = c.read_before.ensures.small (c.loop-arrival.arrival-index + 1 + 2 ^ 54)
    (c.rest-2.ensures.small (c.loop-arrival.arrival-index + 1) (2 ^ 54)
    (omega (arith, before.0, c.loop-arrival.invariant.ticks)) (omega (arith, here.0, c.ticks_by.ensures))
    c.loop-arrival.invariant.small) in
    omega (arith, small.packets, c.loop-arrival.auto.arrival-index-end, c.requires.few)

pub returns-clause-stats : goal.returns-clause-stats
returns-clause-stats c =
    c.stats.ensures
    ∙ ap (λ (polled : Polled Course). course_stats polled.ring)
    (c.read_before.ensures.goes
    ∙ ap (read_before (went_on c.args.room c.args.blocks c.args.pace.now.tov) (c.args.end + 1))
    (last_goes (went_on c.args.room c.args.blocks c.args.pace.now.tov) course_done c.args.stalls.now c.args.pace.now c.args.end
    c.args.arrivals.now c.loop-arrival.at c.loop-arrival.arrival-index c.loop-arrival.polled c.rest-2.new.self _
    c.loop-arrival-test.false
    (c.rest-2.ensures.goes
    ∙ ticks_are (went_on c.args.room c.args.blocks c.args.pace.now.tov) course_done c.args.stalls.now c.args.pace.now
    c.loop-arrival.at c.args.end c.loop-arrival.ticks c.ticks_by.result c.loop-arrival.polled c.loop-arrival.invariant.ticks
    c.ticks_by.ensures)
    c.loop-arrival.invariant.goes))
    ∙ ap course_stats (course_is c.args.room c.args.blocks c.args.stalls.now c.args.pace.now c.args.arrivals.now c.args.end)

pub returns-clause-totals : goal.returns-clause-totals
returns-clause-totals c = λ happenings same plain.
    c.stats.ensures
    ∙ totals_at c.args.room c.args.blocks c.args.pace.now.tov happenings _ c.read_before.new.self.ring same plain
    (ap (λ (polled : Polled Course). polled.ring)
    (c.read_before.ensures.goes
    ∙ ap (read_before (went_on c.args.room c.args.blocks c.args.pace.now.tov) (c.args.end + 1))
    (last_goes (went_on c.args.room c.args.blocks c.args.pace.now.tov) course_done c.args.stalls.now c.args.pace.now c.args.end
    c.args.arrivals.now c.loop-arrival.at c.loop-arrival.arrival-index c.loop-arrival.polled c.rest-2.new.self _
    c.loop-arrival-test.false
    (c.rest-2.ensures.goes
    ∙ ticks_are (went_on c.args.room c.args.blocks c.args.pace.now.tov) course_done c.args.stalls.now c.args.pace.now
    c.loop-arrival.at c.args.end c.loop-arrival.ticks c.ticks_by.result c.loop-arrival.polled c.loop-arrival.invariant.ticks
    c.ticks_by.ensures)
    c.loop-arrival.invariant.goes))
    ∙ course_is c.args.room c.args.blocks c.args.stalls.now c.args.pace.now c.args.arrivals.now c.args.end)
