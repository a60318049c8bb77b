use Rattle.std.proofs.Common.{◌≡◌}
use Rattle.std.specs.Prelude.{replicate}
use Rattle.tap_forward.specs.Forwarders.{new_forwarder}
use Rattle.tap_forward.proofs.bridge.forwarders_of.Given as goal

abbrev pub invariant-loop-forwarder : goal.invariant-loop-forwarder
invariant-loop-forwarder l = l.forwarders.items ≡ replicate l._forwarder (new_forwarder l.shape l.tx l.dump)
