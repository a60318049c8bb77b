use Rattle.run_tests.specs.Passes.{HasDoneFew}
use Rattle.run_tests.proofs.queues.hand_all.Given as goal

abbrev pub invariant-loop-number : goal.invariant-loop-number
invariant-loop-number g l = HasDoneFew l.number l.queue l.pass
