use Rattle.std.proofs.Common.{◌≡◌, drop}
use Rattle.poll_sizes.specs.Wakes.{after_stall}
use Rattle.poll_sizes.proofs.polls.after_stall.Given as goal

abbrev pub invariant-loop-stall : goal.invariant-loop-stall
invariant-loop-stall l = record {
  goes : after_stall (drop l.stall-index l.stalls) l.at ≡ after_stall l.stalls l.at;
}
