use Rattle.std.proofs.Common.{ℕ, ◌≡◌, ◌^◌, max, get_or, sym, ap, ◌∙◌, arith}
use Rattle.std.specs.Prelude.{◌==◌}
use Rattle.ring_sizes.specs.declared.paces.Arrival.{Arrival}
use Rattle.ring_sizes.proofs.Counts.{steps_rise}
use Rattle.ring_sizes.proofs.Still.{released_few}
use Rattle.slot_sizes.specs.SlotCourses.{all_slots_went_on, first_slot_course, slot_course_read, slot_course_stats}
use Rattle.slot_sizes.specs.SlotSchedules.{slot_schedule_to}
use Rattle.slot_sizes.specs.declared.slot_courses.SlotCourse.{SlotCourse}
use Rattle.slot_sizes.proofs.SlotCourseSteps.{arrival_goes, end_goes, fed_few}
use Rattle.slot_sizes.proofs.SlotRuns.{totals_at}
use Rattle.slot_sizes.proofs.SlotSteps.{greater, soon, steps_are}
use Rattle.slot_sizes.proofs.slot_courses.slot_losses_at.Goals as goal

pub awake-requires-clause-early : goal.awake-requires-clause-early
awake-requires-clause-early c =
    let none : Arrival = record { at = 0; need = 0 } in
    let arrival : Arrival = get_or c.args.arrivals.now c.loop-arrival.arrival-index none in
    let is : c.max-at.result ≡ max c.loop-arrival.at arrival.at =
    greater c.loop-arrival.at arrival.at c.max-at.result c.max-at.ensures in
    let early = soon c.args.arrivals.now c.loop-arrival.arrival-index none c.loop-arrival.at c.max-at.result
    c.loop-arrival-test.true c.requires.early c.loop-arrival.invariant.early is in
    let rise = steps_rise c.args.pace.now c.max-at.result (2 ^ 53) c.requires.sound (omega (arith, early)) in
    omega (arith, rise, c.steps_before-next.ensures)

pub loop-arrival-preserved : goal.loop-arrival-preserved
loop-arrival-preserved c =
    let none : Arrival = record { at = 0; need = 0 } in
    let arrival : Arrival = get_or c.args.arrivals.now c.loop-arrival.arrival-index none in
    let is : c.max-at.result ≡ max c.loop-arrival.at arrival.at =
    greater c.loop-arrival.at arrival.at c.max-at.result c.max-at.ensures in
    let early = soon c.args.arrivals.now c.loop-arrival.arrival-index none c.loop-arrival.at c.max-at.result
    c.loop-arrival-test.true c.requires.early c.loop-arrival.invariant.early is in
    let steps = steps_are c.args.stalls.now c.args.pace.now c.loop-arrival.at c.max-at.result c.loop-arrival.steps
    c.steps_before-next.result c.awake.result c.loop-arrival.invariant.steps c.steps_before-next.ensures c.awake.ensures in
    let was = c.read.ensures ∙ ap (λ (n : ℕ). slot_course_read c.args.pace.now.takes_all n c.loop-arrival.course) steps in
    let done = ap (λ (p : SlotCourse). p.done) c.read.ensures in
    let dropped = ap (λ (p : SlotCourse). p.dropped) c.read.ensures in
    let released = ap (λ (p : SlotCourse). p.released) c.read.ensures in
    let few = released_few c.args.pace.now.takes_all (c.awake.result == 0) c.awake.result c.loop-arrival.course.released
    c.loop-arrival.course.done c.loop-arrival.invariant.behind in
    let fed = fed_few c.args.slots c.read.new.self c.feed.new.self c.feed.ensures in
    record {
      early = early;
      steps = c.steps_before-next.ensures;
      few = omega (arith, fed.0, done, dropped, c.loop-arrival.invariant.few);
      behind = omega (arith, fed.1.0, fed.1.1, done, released, few);
      goes = λ end.
          arrival_goes c.args.slots c.args.stalls.now c.args.pace.now end c.loop-arrival.at c.max-at.result c.args.arrivals.now
          c.loop-arrival.arrival-index none c.loop-arrival.course c.read.new.self c.feed.new.self _ c.loop-arrival-test.true is
          was c.feed.ensures (c.loop-arrival.invariant.goes end);
    }

pub returns-clause-stats : goal.returns-clause-stats
returns-clause-stats c = λ end.
    c.stats.ensures
    ∙ end_goes c.args.slots c.args.stalls.now c.args.pace.now end c.loop-arrival.at c.args.arrivals.now
    c.loop-arrival.arrival-index c.loop-arrival.course _ c.loop-arrival-test.false (c.loop-arrival.invariant.goes end)

pub returns-clause-totals : goal.returns-clause-totals
returns-clause-totals c = λ size end happenings same plain slots.
    totals_at size happenings _ c.stats.result same plain
    (c.stats.ensures
    ∙ end_goes c.args.slots c.args.stalls.now c.args.pace.now end c.loop-arrival.at c.args.arrivals.now
    c.loop-arrival.arrival-index c.loop-arrival.course _ c.loop-arrival-test.false (c.loop-arrival.invariant.goes end)
    ∙ ap (λ (n : ℕ). slot_course_stats (all_slots_went_on n (slot_schedule_to c.args.stalls.now c.args.pace.now
    c.args.arrivals.now end) first_slot_course)) (sym slots))
