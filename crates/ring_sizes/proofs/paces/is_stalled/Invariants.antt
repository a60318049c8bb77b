use Rattle.std.proofs.Common.{◌≡◌, drop}
use Rattle.ring_sizes.specs.Schedules.{is_stalled}
use Rattle.ring_sizes.proofs.paces.is_stalled.Given as goal

abbrev pub invariant-loop-stall : goal.invariant-loop-stall
invariant-loop-stall l = record {
  goes : is_stalled (drop l.stall-index l.stalls) l.moment ≡ is_stalled l.stalls l.moment;
}
