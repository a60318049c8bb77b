use Rattle.std.proofs.Common.{◌≤◌}
use Rattle.ring_tests.proofs.slots.do_all.Given as goal

-- at most one slot was placed for each act
abbrev pub invariant-loop-act : goal.invariant-loop-act
invariant-loop-act l = l.ring.placed ≤ l.act-index
