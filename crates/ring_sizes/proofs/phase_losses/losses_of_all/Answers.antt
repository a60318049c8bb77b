use Rattle.std.proofs.Common.{arith}
use Rattle.ring_sizes.specs.Phases.{begun}
use Rattle.ring_sizes.proofs.Totals.{totals_in_all}
use Rattle.ring_sizes.proofs.phase_losses.losses_of_all.Goals as goal

pub returns-clause-range : goal.returns-clause-range
returns-clause-range g c = λ phase from all early inside same plain.
    let is = totals_in_all c.args.room c.args.blocks c.args.trial.now.stalls.now (begun c.args.trial.now.pace phase from)
    c.args.members.now c.args.trial.now.end all same plain in (
      omega (arith, is, c.extremes_of_all-extremes.ensures.fewest.best phase from early inside),
      omega (arith, is, c.extremes_of_all-extremes.ensures.most.best phase from early inside),
    )
