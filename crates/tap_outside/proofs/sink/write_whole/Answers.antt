use Rattle.std.proofs.Common.{arith}
use Rattle.tap_outside.proofs.Writes.{Appends-take}
use Rattle.tap_outside.proofs.sink.write_whole.Goals as goal

pub loop-at-preserved : goal.loop-at-preserved
loop-at-preserved g c = (
  omega (arith, c.in_ok-at.ensures.bound),
  Appends-take _ _ _ _ _ _ _ c.loop-at.invariant.1 c.split_at.ensures.back c.in_ok-at.ensures.bytes,
  omega (arith, c.in_ok-at.ensures.faultless),
  omega (arith, c.in_ok-at.ensures.taken),
)
