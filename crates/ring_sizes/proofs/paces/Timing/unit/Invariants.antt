use Rattle.std.proofs.Common.{ℕ, ◌*◌, ◌<◌}
use Rattle.std.specs.Int.{IsGcd}
use Rattle.ring_sizes.proofs.paces.Timing.unit.Given as goal

abbrev pub invariant-loop-rest : goal.invariant-loop-rest
invariant-loop-rest l = record {
  some : 0 < l.unit;
  goes : (unit : ℕ) → IsGcd l.unit l.rest unit → IsGcd (l.self.tov * 1000000 * l.self.parts) l.self.span unit;
}

abbrev pub decreases-loop-rest : goal.decreases-loop-rest
decreases-loop-rest l = l.rest
