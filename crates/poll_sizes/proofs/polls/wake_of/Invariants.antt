use Rattle.std.proofs.Common.{◌≡◌}
use Rattle.poll_sizes.specs.Wakes.{after_stalls, wake_of}
use Rattle.poll_sizes.proofs.polls.wake_of.Given as goal

abbrev pub invariant-loop-left : goal.invariant-loop-left
invariant-loop-left l = record { goes : after_stalls l.left l.stalls l.at ≡ wake_of l.stalls l.moment }

abbrev pub decreases-loop-left : goal.decreases-loop-left
decreases-loop-left l = l.left
