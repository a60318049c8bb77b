use Rattle.std.proofs.Common.{ℕ, ◌+◌, subst, sym, arith}
use Rattle.ring_sizes.specs.Phases.{IsFirstFewest, IsFirstMost, begun}
use Rattle.ring_sizes.proofs.Columns.{fewer_column, more_column}
use Rattle.ring_sizes.proofs.extremes.extremes_of_phases.Goals as goal

pub loop-from-preserved : goal.loop-from-preserved
loop-from-preserved g c =
    let numbers : ℕ → ℕ → ℕ =
    λ phase from. g.M.Measure.number c.args.measure.now (begun c.args.pace.now phase from) in
    record {
      some = omega (arith, c.loop-from.invariant.some);
      below = omega (arith, c.loop-from-test.true);
      fewest =
          subst (IsFirstFewest (record c.args.tries.now { from_end = c.loop-from.from + 1 }) numbers)
          (sym c.fewer_first.ensures)
          (fewer_column numbers c.args.tries.now c.loop-from.from c.loop-from.extremes.fewest
          c.extremes_from-found.result.fewest
          c.loop-from.invariant.fewest c.extremes_from-found.ensures.fewest c.loop-from.invariant.some);
      most =
          subst (IsFirstMost (record c.args.tries.now { from_end = c.loop-from.from + 1 }) numbers)
          (sym c.more_first.ensures)
          (more_column numbers c.args.tries.now c.loop-from.from c.loop-from.extremes.most c.extremes_from-found.result.most
          c.loop-from.invariant.most c.extremes_from-found.ensures.most c.loop-from.invariant.some);
    }
