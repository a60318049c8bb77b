use Rattle.std.proofs.Common.{refl}
use Rattle.tap_forward.proofs.Forwards.{opened}
use Rattle.tap_forward.proofs.forwarder.Forwarder.new.Goals as goal

pub invariant_of-result : goal.invariant_of-result
invariant_of-result c = opened _ c.args.shape c.args.dump c.new.ensures c.in_ok-new.ensures.going c.in_ok-new.ensures.given refl
