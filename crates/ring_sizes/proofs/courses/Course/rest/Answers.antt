use Rattle.std.proofs.Common.{ℕ, ◌≡◌, ◌+◌, ◌-◌, ◌*◌, ◌<◌, ◌≤◌, ◌^◌, max, subst, sym, ap, ◌∙◌, arith}
use Rattle.std.proofs.lemmas.Grind.{common_steps}
use Rattle.ring_sizes.specs.Courses.{IsSmall, over_time}
use Rattle.ring_sizes.specs.Rests.{course_last, course_read, is_still}
use Rattle.ring_sizes.specs.Schedules.{awake, steps_before, ticks_by}
use Rattle.ring_sizes.specs.declared.courses.Course.{Course}
use Rattle.ring_sizes.specs.declared.events.Event.TheVariants.{Tick}
use Rattle.ring_sizes.proofs.Counts.{moments_rise, tick_comes, ticks_few}
use Rattle.ring_sizes.proofs.CourseGaps.{read_small, smaller, tick_goes_at}
use Rattle.ring_sizes.proofs.CourseRests.{last_goes, last_small}
use Rattle.ring_sizes.proofs.Small.{stays_small}
use Rattle.ring_sizes.proofs.courses.Course.rest.Goals.{else-loop-ticks-test, then-loop-ticks-test+else-not-is_still}
use Rattle.ring_sizes.proofs.courses.Course.rest.Goals as goal

few_ticks : (last since most : ℕ) → last < most → since < most → max last since < most
few_ticks last since most h k = grind (arith, common_steps)

pub read_from-requires-clause-small : goal.read_from-requires-clause-small
read_from-requires-clause-small c =
    let few = few_ticks c.args.last (ticks_by c.args.pace.now c.args.since) (2 ^ 54)
    (omega (arith, c.requires.last, ticks_few c.args.pace.now c.args.at c.requires.sound c.requires.early.1))
    (ticks_few c.args.pace.now c.args.since c.requires.sound (omega (arith, c.requires.early.0))) in
    smaller (2 ^ 62 + c.loop-ticks.ticks) (2 ^ 63) c.loop-ticks.self (omega (arith, few, c.loop-ticks.invariant.most))
    (c.loop-ticks.invariant.small (2 ^ 62)
    (smaller (2 ^ 62) (2 ^ 62 + ticks_by c.args.pace.now c.args.since) c.args.self.now (omega arith) c.requires.small))

pub tick-requires : goal.tick-requires
tick-requires c =
    let few = ticks_few c.args.pace.now c.args.at c.requires.sound c.requires.early.1 in
    subst (IsSmall (2 ^ 63)) (sym c.read_from.ensures)
    (read_small (2 ^ 63) c.args.pace.now.takes_all
    (awake c.args.stalls.now c.args.pace.now (steps_before c.args.pace.now c.loop-ticks.from)
    (steps_before c.args.pace.now c.tick_moment-next.result - steps_before c.args.pace.now c.loop-ticks.from))
    c.loop-ticks.self
    (smaller (2 ^ 62 + c.loop-ticks.ticks) (2 ^ 63) c.loop-ticks.self
    (omega (arith, few, c.loop-ticks-test.true, c.requires.last))
    (c.loop-ticks.invariant.small (2 ^ 62)
    (smaller (2 ^ 62) (2 ^ 62 + ticks_by c.args.pace.now c.args.since) c.args.self.now (omega arith) c.requires.small))))

pub loop-ticks-preserved : goal.loop-ticks-preserved
loop-ticks-preserved c =
    let ticks : ℕ = c.loop-ticks.ticks in
    let by = (tick_comes c.args.pace.now c.args.at (ticks + 1) c.requires.sound.tov).0
    (omega (arith, c.loop-ticks-test.true, c.requires.last)) in
    let goes : c.tick.new.self ≡ over_time c.args.blocks c.args.pace.now.tov
    ((ticks + 1) * c.args.pace.now.tov) c.read_from.new.self =
    c.tick.ensures.goes
    ∙ ap (λ (tov : ℕ). over_time c.args.blocks tov ((ticks + 1) * tov) c.read_from.new.self) c.from-tov.ensures in
    record {
      begun = omega (arith, c.loop-ticks.invariant.begun);
      most = more_ticks ticks c.args.last (ticks_by c.args.pace.now c.args.since) c.loop-ticks-test.true;
      early = omega (arith, by, c.tick_moment-next.ensures, c.requires.early.1);
      soon = let rise = moments_rise c.args.pace.now ticks in omega (arith, rise, c.tick_moment-next.ensures);
      small = λ bound h.
          subst (IsSmall (bound + (ticks + 1))) (sym goes)
          (smaller (bound + ticks + 1) (bound + (ticks + 1)) _ (omega arith)
          (stays_small (bound + ticks) 0 c.args.blocks c.args.pace.now.tov (Tick ((ticks + 1) * c.args.pace.now.tov))
          c.read_from.new.self
          (subst (IsSmall (bound + ticks)) (sym c.read_from.ensures)
          (read_small (bound + ticks) c.args.pace.now.takes_all
          (awake c.args.stalls.now c.args.pace.now (steps_before c.args.pace.now c.loop-ticks.from)
          (steps_before c.args.pace.now c.tick_moment-next.result - steps_before c.args.pace.now c.loop-ticks.from))
          c.loop-ticks.self (c.loop-ticks.invariant.small bound h)))
          (subst (λ (course : Course). course.used < 2 ^ 32) goes c.tick.ensures.used)));
      goes = λ room.
          tick_goes_at room c.args.blocks c.args.stalls.now c.args.pace.now ticks c.args.last
          c.loop-ticks.from c.tick_moment-next.result c.args.at c.loop-ticks.self c.read_from.new.self c.tick.new.self _
          c.loop-ticks-test.true c.tick_moment-next.ensures c.read_from.ensures goes (c.loop-ticks.invariant.goes room);
    }
  where
    more_ticks : (ticks last since : ℕ) → ticks < last → ticks + 1 ≤ max last since
    more_ticks ticks last since h = grind (arith, common_steps)

pub tick_on-requires-clause-small : goal.tick_on-requires-clause-small
tick_on-requires-clause-small c =
    let few = few_ticks c.args.last (ticks_by c.args.pace.now c.args.since) (2 ^ 54)
    (omega (arith, c.requires.last, ticks_few c.args.pace.now c.args.at c.requires.sound c.requires.early.1))
    (ticks_few c.args.pace.now c.args.since c.requires.sound (omega (arith, c.requires.early.0))) in
    smaller (2 ^ 62 + c.loop-ticks.ticks) (2 ^ 63) c.loop-ticks.self (omega (arith, few, c.loop-ticks.invariant.most))
    (c.loop-ticks.invariant.small (2 ^ 62)
    (smaller (2 ^ 62) (2 ^ 62 + ticks_by c.args.pace.now c.args.since) c.args.self.now (omega arith) c.requires.small))

pub read_from-requires-2-clause-small : goal.read_from-requires-2-clause-small
read_from-requires-2-clause-small c =
    let few = few_ticks c.args.last (ticks_by c.args.pace.now c.args.since) (2 ^ 54)
    (omega (arith, c.requires.last, ticks_few c.args.pace.now c.args.at c.requires.sound c.requires.early.1))
    (ticks_few c.args.pace.now c.args.since c.requires.sound (omega (arith, c.requires.early.0))) in
    let last = ticks_few c.args.pace.now c.args.at c.requires.sound c.requires.early.1 in
    smaller (2 ^ 62 + 2 ^ 54) (2 ^ 63) c.tick_on.new.self (omega arith)
    (last_small (2 ^ 62) (2 ^ 54) c.args.blocks c.args.pace.now.tov c.loop-ticks.ticks c.args.last c.loop-ticks.self
    c.tick_on.new.self (omega (arith, few, c.loop-ticks.invariant.most)) (omega (arith, last, c.requires.last))
    (c.loop-ticks.invariant.small (2 ^ 62)
    (smaller (2 ^ 62) (2 ^ 62 + ticks_by c.args.pace.now c.args.since) c.args.self.now (omega arith) c.requires.small))
    (c.tick_on.ensures.goes ∙ ap (λ (tov : ℕ). course_last c.args.blocks tov c.loop-ticks.ticks c.args.last c.loop-ticks.self)
    c.from-tov.ensures) c.tick_on.ensures.used)

pub returns-clause-goes : goal.returns-clause-goes
returns-clause-goes c = λ room.
    last_goes room c.args.blocks c.args.stalls.now c.args.pace.now c.requires.sound c.loop-ticks.ticks c.args.last
    c.loop-ticks.from c.args.at c.loop-ticks.self c.read_from-2.new.self _
    (λ more.
    elim c.loop-ticks-test.branch [
      | then-loop-ticks-test+else-not-is_still w ↦
          ap (λ (tov : ℕ). is_still ((c.loop-ticks.ticks + 1) * tov) c.loop-ticks.self) (sym c.from-tov.ensures)
          ∙ sym w.is_still.ensures ∙ w.if-not-is_still.false
      | else-loop-ticks-test w ↦ absurd (omega (arith, more, w.loop-ticks-test.false))
    ])
    c.loop-ticks.invariant.soon c.requires.last
    (c.read_from-2.ensures
    ∙ ap (λ (course : Course). course_read c.args.pace.now.takes_all
    (awake c.args.stalls.now c.args.pace.now (steps_before c.args.pace.now c.loop-ticks.from)
    (steps_before c.args.pace.now c.args.at - steps_before c.args.pace.now c.loop-ticks.from)) course)
    (c.tick_on.ensures.goes ∙ ap (λ (tov : ℕ). course_last c.args.blocks tov c.loop-ticks.ticks c.args.last c.loop-ticks.self)
    c.from-tov.ensures))
    (c.loop-ticks.invariant.goes room)

pub returns-clause-small : goal.returns-clause-small
returns-clause-small c = λ bound most begun few h.
    subst (IsSmall (bound + most)) (sym c.read_from-2.ensures)
    (read_small (bound + most) c.args.pace.now.takes_all
    (awake c.args.stalls.now c.args.pace.now (steps_before c.args.pace.now c.loop-ticks.from)
    (steps_before c.args.pace.now c.args.at - steps_before c.args.pace.now c.loop-ticks.from))
    c.tick_on.new.self
    (last_small bound most c.args.blocks c.args.pace.now.tov c.loop-ticks.ticks c.args.last c.loop-ticks.self
    c.tick_on.new.self
    (few_by c.loop-ticks.ticks c.args.last (ticks_by c.args.pace.now c.args.since) most c.loop-ticks.invariant.most begun few)
    few (c.loop-ticks.invariant.small bound h)
    (c.tick_on.ensures.goes ∙ ap (λ (tov : ℕ). course_last c.args.blocks tov c.loop-ticks.ticks c.args.last c.loop-ticks.self)
    c.from-tov.ensures) c.tick_on.ensures.used))
  where
    few_by : (ticks last since most : ℕ) → ticks ≤ max last since → since ≤ most → last ≤ most → ticks ≤ most
    few_by ticks last since most h begun few = grind (arith, common_steps)
