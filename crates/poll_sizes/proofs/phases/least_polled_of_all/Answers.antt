use Rattle.std.proofs.Common.{◌≡◌, ◌↔◌, ℕ, ◌+◌, ◌<◌, ◌≤◌, subst, sym, ap, ◌∙◌, arith}
use Rattle.poll_sizes.specs.PollPhases.{least_polled_at, polled_at}
use Rattle.poll_sizes.specs.Polls.{least_polled_of}
use Rattle.poll_sizes.specs.declared.polls.PollTiming.{PollTiming}
use Rattle.ring_events.specs.Happenings.{NeverFreezes}
use Rattle.ring_sizes.specs.Phases.{IsFirstMost}
use Rattle.poll_sizes.proofs.OwnEvents.{least_some, never_polled}
use Rattle.poll_sizes.proofs.PollStretches.{all_tried, next_most}
use Rattle.poll_sizes.proofs.phases.least_polled_of_all.Goals as goal

pub loop-phase-preserved : goal.loop-phase-preserved
loop-phase-preserved c =
    let least : ℕ → ℕ = λ phase. least_polled_of c.args.room c.args.stalls.now (polled_at c.args.pace.now phase)
    c.args.arrivals.now c.args.end in
    record {
      some = omega (arith, c.loop-phase.invariant.some);
      below = omega (arith, c.loop-phase-test.true);
      far =
          subst (IsFirstMost (record c.args.tries.now { phase_end = c.loop-phase.phase + 1 })
          (least_polled_at c.args.room c.args.stalls.now c.args.pace.now c.args.arrivals.now c.args.end))
          (sym c.or_more-worst.ensures)
          (next_most least c.args.tries.now c.requires.tried.beginnings c.loop-phase.phase c.least_polled-least.result
          c.loop-phase.worst c.loop-phase.invariant.far c.loop-phase.invariant.some
          (c.least_polled-least.ensures.least
          ∙ ap (λ (pace : PollTiming). least_polled_of c.args.room c.args.stalls.now pace c.args.arrivals.now c.args.end)
          c.at-here.ensures));
    }

pub returns-clause-some : goal.returns-clause-some
returns-clause-some c =
    let worst : IsFirstMost c.args.tries.now
    (least_polled_at c.args.room c.args.stalls.now c.args.pace.now c.args.arrivals.now c.args.end) c.loop-phase.worst =
    all_tried (λ number other. other ≤ number) (λ number other. other < number)
    (least_polled_at c.args.room c.args.stalls.now c.args.pace.now c.args.arrivals.now c.args.end) c.args.tries.now
    c.loop-phase.phase c.loop-phase.worst c.loop-phase.invariant.below (omega (arith, c.loop-phase-test.false))
    c.loop-phase.invariant.far in
    let some = least_some c.args.room c.args.stalls.now (polled_at c.args.pace.now c.loop-phase.worst.phase)
    c.args.arrivals.now c.args.end in
    let is : c.loop-phase.worst.number ≡ least_polled_of c.args.room c.args.stalls.now
    (polled_at c.args.pace.now c.loop-phase.worst.phase) c.args.arrivals.now c.args.end = worst.reached in
    omega (arith, some, is)

pub returns-clause-enough : goal.returns-clause-enough
returns-clause-enough c = λ phase blocks happenings early same few.
    let worst : IsFirstMost c.args.tries.now
    (least_polled_at c.args.room c.args.stalls.now c.args.pace.now c.args.arrivals.now c.args.end) c.loop-phase.worst =
    all_tried (λ number other. other ≤ number) (λ number other. other < number)
    (least_polled_at c.args.room c.args.stalls.now c.args.pace.now c.args.arrivals.now c.args.end) c.args.tries.now
    c.loop-phase.phase c.loop-phase.worst c.loop-phase.invariant.below (omega (arith, c.loop-phase-test.false))
    c.loop-phase.invariant.far in
    let pace : PollTiming = polled_at c.args.pace.now phase in
    let some = least_some c.args.room c.args.stalls.now pace c.args.arrivals.now c.args.end in
    let most : least_polled_of c.args.room c.args.stalls.now pace c.args.arrivals.now c.args.end ≤ c.loop-phase.worst.number =
    worst.best phase c.args.tries.now.first_from early (omega arith, c.requires.tried.beginnings) in
    (never_polled c.args.room blocks c.args.stalls.now pace c.args.arrivals.now c.args.end happenings same
    (omega (arith, some, most, few))).1 (omega (arith, most, few))

pub returns-clause-reached : goal.returns-clause-reached
returns-clause-reached c = λ blocks happenings same some.
    let worst : IsFirstMost c.args.tries.now
    (least_polled_at c.args.room c.args.stalls.now c.args.pace.now c.args.arrivals.now c.args.end) c.loop-phase.worst =
    all_tried (λ number other. other ≤ number) (λ number other. other < number)
    (least_polled_at c.args.room c.args.stalls.now c.args.pace.now c.args.arrivals.now c.args.end) c.args.tries.now
    c.loop-phase.phase c.loop-phase.worst c.loop-phase.invariant.below (omega (arith, c.loop-phase-test.false))
    c.loop-phase.invariant.far in
    subst (λ (least : ℕ). NeverFreezes (record { room = c.args.room; blocks = blocks; tov = c.args.pace.now.tov }) happenings
    ↔ (least ≤ blocks)) (sym worst.reached)
    (never_polled c.args.room blocks c.args.stalls.now (polled_at c.args.pace.now c.loop-phase.worst.phase)
    c.args.arrivals.now c.args.end happenings same some)
