use Rattle.run_tests.specs.Passes.{HasDoneFew}
use Rattle.run_tests.proofs.queues.fetch_some.Given as goal

abbrev pub invariant-loop : goal.invariant-loop
invariant-loop g l = HasDoneFew l.counter l.queue l.pass
