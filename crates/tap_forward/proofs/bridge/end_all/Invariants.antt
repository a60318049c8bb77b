use Rattle.std.proofs.Common.{◌≡◌, ◌++◌}
use Rattle.std.specs.Prelude.{map}
use Rattle.tap_forward.proofs.Bridged.{outputs_in, sent_in, skipped_in}
use Rattle.tap_forward.proofs.bridge.end_all.Given as goal

abbrev pub invariant-loop-forwarder : goal.invariant-loop-forwarder
invariant-loop-forwarder l = record {
  outputs : l.ended.outputs.items ++ map outputs_in l.forwarder-iterator.rest.items ≡ map outputs_in l.fn.forwarders.items;
  sent : l.ended.sent.items ++ map sent_in l.forwarder-iterator.rest.items ≡ map sent_in l.fn.forwarders.items;
  skipped : l.ended.skipped.items ++ map skipped_in l.forwarder-iterator.rest.items ≡ map skipped_in l.fn.forwarders.items;
}
