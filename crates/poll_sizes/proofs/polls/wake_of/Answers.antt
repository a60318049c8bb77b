use Rattle.std.proofs.Common.{sym, ◌∙◌, arith}
use Rattle.poll_sizes.proofs.WakeMoments.{next_round, no_round, rounds_stay}
use Rattle.poll_sizes.proofs.polls.wake_of.Goals as goal

pub returns-then-next-at : goal.returns-then-next-at
returns-then-next-at c =
    sym (rounds_stay c.loop-left.left c.args.stalls.now c.loop-left.at (sym c.after_stall-next.ensures ∙ c.if-next-at.true))
    ∙ c.loop-left.invariant.goes

pub loop-left-preserved : goal.loop-left-preserved
loop-left-preserved c = record {
  goes =
      next_round c.loop-left.left c.args.stalls.now c.loop-left.at c.after_stall-next.result _ c.loop-left-test.true
      c.after_stall-next.ensures c.loop-left.invariant.goes;
}

pub returns : goal.returns
returns c =
    no_round c.loop-left.left c.args.stalls.now c.loop-left.at _ (omega (arith, c.loop-left-test.false))
    c.loop-left.invariant.goes
