use Rattle.std.proofs.Common.{◌≡◌, ℕ, ◌<◌, ◌≤◌, ◌^◌, drop}
use Rattle.ring_sizes.specs.Schedules.{is_stalled}
use Rattle.ring_sizes.proofs.paces.next_change.Given as goal

abbrev pub invariant-loop-stall : goal.invariant-loop-stall
invariant-loop-stall l = record {
  later : l.moment < l.next;
  early : l.next ≤ 2 ^ 53;
  same : (at : ℕ) → l.moment ≤ at → at < l.next
      → is_stalled (drop l.stall-index l.stalls) at ≡ is_stalled (drop l.stall-index l.stalls) l.moment
      → is_stalled l.stalls at ≡ is_stalled l.stalls l.moment;
}
