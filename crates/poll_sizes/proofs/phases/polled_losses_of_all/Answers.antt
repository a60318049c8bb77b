use Rattle.std.proofs.Common.{ℕ, ◌+◌, ◌<◌, ◌≤◌, subst, sym, refl, ap, ◌∙◌, arith}
use Rattle.poll_sizes.specs.PollPhases.{polled_at, polled_drops_at}
use Rattle.poll_sizes.specs.Polls.{polled_drops_of}
use Rattle.poll_sizes.specs.declared.polls.PollTiming.{PollTiming}
use Rattle.ring_model.specs.declared.notes.Stats.{Stats}
use Rattle.ring_sizes.specs.Phases.{IsFirstFewest, IsFirstMost}
use Rattle.ring_sizes.proofs.Runs.{totals_at}
use Rattle.poll_sizes.proofs.PollStretches.{all_tried, next_fewest, next_most}
use Rattle.poll_sizes.proofs.phases.polled_losses_of_all.Goals as goal

pub loop-phase-preserved : goal.loop-phase-preserved
loop-phase-preserved c =
    let drops : ℕ → ℕ = λ phase. polled_drops_of c.args.room c.args.blocks c.args.stalls.now (polled_at c.args.pace.now phase)
    c.args.arrivals.now c.args.end in
    let is = ap (λ (stats : Stats). stats.drops) c.polled_losses-drops.ensures.stats
    ∙ ap (λ (pace : PollTiming). polled_drops_of c.args.room c.args.blocks c.args.stalls.now pace c.args.arrivals.now
    c.args.end)
    c.at-here.ensures in
    record {
      some = omega (arith, c.loop-phase.invariant.some);
      below = omega (arith, c.loop-phase-test.true);
      fewest =
          subst (IsFirstFewest (record c.args.tries.now { phase_end = c.loop-phase.phase + 1 })
          (polled_drops_at c.args.room c.args.blocks c.args.stalls.now c.args.pace.now c.args.arrivals.now c.args.end))
          (sym c.or_fewer.ensures)
          (next_fewest drops c.args.tries.now c.requires.tried.beginnings c.loop-phase.phase c.polled_losses-drops.result.drops
          c.loop-phase.range.fewest c.loop-phase.invariant.fewest c.loop-phase.invariant.some is);
      most =
          subst (IsFirstMost (record c.args.tries.now { phase_end = c.loop-phase.phase + 1 })
          (polled_drops_at c.args.room c.args.blocks c.args.stalls.now c.args.pace.now c.args.arrivals.now c.args.end))
          (sym c.or_more.ensures)
          (next_most drops c.args.tries.now c.requires.tried.beginnings c.loop-phase.phase c.polled_losses-drops.result.drops
          c.loop-phase.range.most c.loop-phase.invariant.most c.loop-phase.invariant.some is);
    }

pub returns-clause-fewest : goal.returns-clause-fewest
returns-clause-fewest c =
    all_tried (λ number other. number ≤ other) (λ number other. number < other)
    (polled_drops_at c.args.room c.args.blocks c.args.stalls.now c.args.pace.now c.args.arrivals.now c.args.end)
    c.args.tries.now c.loop-phase.phase c.loop-phase.range.fewest c.loop-phase.invariant.below
    (omega (arith, c.loop-phase-test.false)) c.loop-phase.invariant.fewest

pub returns-clause-most : goal.returns-clause-most
returns-clause-most c =
    all_tried (λ number other. other ≤ number) (λ number other. other < number)
    (polled_drops_at c.args.room c.args.blocks c.args.stalls.now c.args.pace.now c.args.arrivals.now c.args.end)
    c.args.tries.now c.loop-phase.phase c.loop-phase.range.most c.loop-phase.invariant.below
    (omega (arith, c.loop-phase-test.false)) c.loop-phase.invariant.most

pub returns-clause-range : goal.returns-clause-range
returns-clause-range c = λ phase happenings early same plain.
    let fewest : IsFirstFewest c.args.tries.now
    (polled_drops_at c.args.room c.args.blocks c.args.stalls.now c.args.pace.now c.args.arrivals.now c.args.end)
    c.loop-phase.range.fewest =
    all_tried (λ number other. number ≤ other) (λ number other. number < other)
    (polled_drops_at c.args.room c.args.blocks c.args.stalls.now c.args.pace.now c.args.arrivals.now c.args.end)
    c.args.tries.now c.loop-phase.phase c.loop-phase.range.fewest c.loop-phase.invariant.below
    (omega (arith, c.loop-phase-test.false)) c.loop-phase.invariant.fewest in
    let most : IsFirstMost c.args.tries.now
    (polled_drops_at c.args.room c.args.blocks c.args.stalls.now c.args.pace.now c.args.arrivals.now c.args.end)
    c.loop-phase.range.most =
    all_tried (λ number other. other ≤ number) (λ number other. other < number)
    (polled_drops_at c.args.room c.args.blocks c.args.stalls.now c.args.pace.now c.args.arrivals.now c.args.end)
    c.args.tries.now c.loop-phase.phase c.loop-phase.range.most c.loop-phase.invariant.below
    (omega (arith, c.loop-phase-test.false)) c.loop-phase.invariant.most in
    let is = ap (λ (stats : Stats). stats.drops)
    (totals_at c.args.room c.args.blocks c.args.pace.now.tov happenings _ _ same plain refl) in (
      omega (arith, is, fewest.best phase c.args.tries.now.first_from early (omega arith, c.requires.tried.beginnings)),
      omega (arith, is, most.best phase c.args.tries.now.first_from early (omega arith, c.requires.tried.beginnings)),
    )
